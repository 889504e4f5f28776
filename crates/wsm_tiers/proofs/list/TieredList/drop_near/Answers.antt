use Rattle.std.proofs.Common.{ap, ◌++◌, ◌∙◌}
use Rattle.wsm_tiers.proofs.Near.{dropped}
use Rattle.wsm_tiers.proofs.list.TieredList.drop_near.Goals as goal

pub invariant_of-self : goal.invariant_of-self
invariant_of-self g c =
    let a = c.self.inside in
    let within = rw (← c.self.view_is) at c.requires.within in
    let all = c.refill.ensures.items ∙ ap (λ l. l ++ a.far.items) c.drop_items.ensures.items in
    rw (c.refill.ensures.capacity, c.drop_items.ensures.capacity) (dropped a.room a.len a.near.items _ a.far c.self.invariant c.args.count c.requires.near within c.refill.new.near.items c.refill.new.far all c.refill.ensures.left c.refill.ensures.room)
