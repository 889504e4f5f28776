use Rattle.std.proofs.Common.{◌-◌, arith}
use Rattle.wsm_tiers.proofs.Filled.{count}
use Rattle.wsm_tiers.proofs.far.Far.remove.Goals as goal

pub take-item-requires-clause-at : goal.take-item-requires-clause-at
take-item-requires-clause-at g c =
    let less = rw (← c.self.view_is) at c.requires in
    omega (arith, less, count c.self.inside.tiers.items c.self.inside.len c.self.invariant.0)

pub overflow_sub-self : goal.overflow_sub-self
overflow_sub-self g c =
    let less = rw (← c.self.view_is) at c.requires in
    omega (arith, less, count c.self.inside.tiers.items c.self.inside.len c.self.invariant.0)

pub invariant_of-self : goal.invariant_of-self
invariant_of-self g c =
    let less = rw (← c.self.view_is) at c.requires in
    let long = count c.self.inside.tiers.items c.self.inside.len c.self.invariant.0 in
    (c.take-item.ensures.filled (c.self.inside.len - 1) (omega (arith, less, long)), omega (arith, c.self.invariant.1), omega (arith, c.self.invariant.2, c.take-item.ensures.room), omega (arith, c.self.invariant.3, c.take-item.ensures.room), omega (arith, c.self.invariant.4, c.take-item.ensures.capacity, c.take-item.ensures.room))
