use Rattle.std.proofs.Common.{arith}
use Rattle.wsm_tiers.proofs.Filled.{count}
use Rattle.wsm_tiers.proofs.far.Far.insert.Goals as goal

pub put-requires-clause-at : goal.put-requires-clause-at
put-requires-clause-at g c =
    let less = rw (← c.self.view_is) at c.requires.at in
    omega (arith, less, count c.self.inside.tiers.items c.self.inside.len c.self.invariant.0)

pub put-requires-clause-room : goal.put-requires-clause-room
put-requires-clause-room g c =
    let less = rw (← c.self.view_is) at c.requires.room in
    omega (arith, less, count c.self.inside.tiers.items c.self.inside.len c.self.invariant.0, c.self.invariant.2)

pub overflow_add-self : goal.overflow_add-self
overflow_add-self g c =
    let less = rw (← c.self.view_is) at c.requires.room in
    omega (arith, less, count c.self.inside.tiers.items c.self.inside.len c.self.invariant.0, c.self.ranges)

pub invariant_of-self : goal.invariant_of-self
invariant_of-self g c =
    let less = rw (← c.self.view_is) at c.requires.room in
    let long = count c.self.inside.tiers.items c.self.inside.len c.self.invariant.0 in
    (c.put.ensures.filled, omega (arith, less, long), omega (arith, c.self.invariant.2, c.put.ensures.room), omega (arith, c.self.invariant.3, c.put.ensures.room), omega (arith, c.self.invariant.4, c.put.ensures.capacity, c.put.ensures.room))
