use Rattle.std.proofs.Common.{◌≡◌, ◌+◌, ◌-◌, ◌∙◌, [], ◌∷◌, ◌++◌, length, drop, reverse, ap, arith}
use Rattle.std.proofs.lemmas.List.{length-reverse}
use Rattle.wsm_machine.proofs.Reversed.{reverse-replaced}
use Rattle.wsm_machine.proofs.stack.Stack.replace.Goals as goal

pub returns : goal.returns
returns c =
    let items = c.self.inside.cells.items in
    let kept = c.len.result - c.args.popped in
    let long : length items ≡ kept + c.args.popped = omega (arith, ap length c.self.view_is, length-reverse items) in
    ap reverse (c.push_reserved.ensures.items ∙ ap (λ l. l ++ c.args.cell ∷ []) c.truncate.ensures.items)
    ∙ reverse-replaced items kept c.args.popped c.args.cell long
    ∙ ap (λ l. c.args.cell ∷ drop c.args.popped l) c.self.view_is
