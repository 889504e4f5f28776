use Rattle.std.proofs.Common.{◌≡◌, ◌+◌, ◌-◌, ◌∙◌, length, drop, reverse, ap, arith}
use Rattle.std.proofs.lemmas.List.{length-reverse}
use Rattle.wsm_machine.proofs.Reversed.{reverse-take}
use Rattle.wsm_machine.proofs.stack.Stack.pop.Goals as goal

pub returns : goal.returns
returns c =
    let items = c.self.inside.cells.items in
    let kept = c.len-len.result - 1 in
    let long : length items ≡ kept + 1 = omega (arith, ap length c.self.view_is, length-reverse items) in
    ap reverse c.truncate.ensures.items ∙ reverse-take items kept 1 long ∙ ap (drop 1) c.self.view_is
