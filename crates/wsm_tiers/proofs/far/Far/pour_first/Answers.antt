use Rattle.std.proofs.Common.{◌++◌, sym, ap, ◌∙◌}
use Rattle.wsm_tiers.specs.Tiers.{joined}
use Rattle.wsm_tiers.proofs.Filled.{left, poured}
use Rattle.wsm_tiers.proofs.far.Far.pour_first.Goals as goal

pub returns-clause-poured : goal.returns-clause-poured
returns-clause-poured g c =
    let some = rw (← c.self.view_is) at c.requires.some in
    rw (← c.self.view_is) (c.append.ensures.items
    ∙ ap (λ l. c.args.into.now.items ++ l) (sym (poured c.self.inside.tiers.items c.self.inside.len c.remove-first.result c.self.invariant.0 some c.remove-first.ensures.value)))

pub returns-clause-left : goal.returns-clause-left
returns-clause-left g c =
    let some = rw (← c.self.view_is) at c.requires.some in
    rw (← c.self.view_is) (ap joined c.push_reserved.ensures.items ∙ rw c.remove-first.ensures.items (left c.self.inside.tiers.items c.self.inside.len c.clear.new.self c.self.invariant.0 some c.clear.ensures.items))
