use Rattle.std.proofs.Common.{◌≡◌, ◌++◌, take, ap, ◌∙◌, arith}
use Rattle.wsm_tiers.specs.declared.far.TheConstants.{TIER}
use Rattle.wsm_tiers.proofs.Near.{near_full, poured, poured_items}
use Rattle.wsm_tiers.proofs.list.TieredList.drop_tier.Goals as goal

pub invariant_of-self : goal.invariant_of-self
invariant_of-self g c =
    let a = c.self.inside in
    let many = rw (← c.self.view_is) at c.requires in
    let full = near_full a.room a.len a.near.items _ a.far c.self.invariant (omega (arith, many)) in
    let next : c.pour_first.new.into.items ≡ take TIER a.far.items = c.pour_first.ensures.poured ∙ ap (λ l. l ++ take TIER a.far.items) c.clear.ensures.items in
    poured a.room a.len a.near.items _ a.far c.self.invariant full c.pour_first.new.into.items _ c.pour_first.new.self next (omega (arith, c.pour_first.ensures.capacity, c.clear.ensures.capacity)) c.pour_first.ensures.left c.pour_first.ensures.room

pub returns-clause-items : goal.returns-clause-items
returns-clause-items g c =
    let a = c.self.inside in
    let many = rw (← c.self.view_is) at c.requires in
    let full = near_full a.room a.len a.near.items _ a.far c.self.invariant (omega (arith, many)) in
    rw (← c.self.view_is, c.pour_first.ensures.poured, c.clear.ensures.items, c.pour_first.ensures.left) (poured_items a.room a.len a.near.items _ a.far c.self.invariant full)
