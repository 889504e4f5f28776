use Rattle.std.proofs.Common.{◌≡◌, Some, None, ℤ, SFits, w64, ◌+ℤ◌, ◌-ℤ◌, rules, refl, arith}
use Rattle.std.specs.Int.{int_max}
use Rattle.std.specs.Option.{SomeIff}
use Rattle.std.proofs.lemmas.Int.{ints, to_z-of_z}
use Rattle.wsm_ring.specs.Ring.{IsFirstPast, IsNextOnGrid}
use Rattle.wsm_ring.proofs.Rings.{between_fits, later_past}
use Rattle.wsm_ring.proofs.Clears.{none_ended}
use Rattle.wsm_ring.proofs.ring_table.first_past.Goals as goal

pub start_past-requires-clause-next : goal.start_past-requires-clause-next
start_past-requires-clause-next c =
    let after : SFits w64 c.args.after = c.ranges.after in
    let size : SFits w64 c.args.ring.size = search rules in
    let period : SFits w64 c.args.ring.period = search rules in
    let before : SFits w64 c.in-Some.before = search rules in
    let sub : SomeIff (Some c.in-Some.before) (SFits w64 (c.args.after -ℤ c.args.ring.size)) (c.args.after -ℤ c.args.ring.size) = rw c.in-Some.is at (simp to_z-of_z at c.checked_sub.ensures) in
    simp to_z-of_z (between_fits c.in-Some.before (c.in-Some.before +ℤ c.args.ring.period) c.args.after before after (omega (arith, ints, c.requires.ring.period_low)) (omega (arith, ints, sub.1, c.requires.ring.period_high)))

pub returns-in-Some : goal.returns-in-Some
returns-in-Some c =
    let after : SFits w64 c.args.after = c.ranges.after in
    let first : SFits w64 c.args.first = c.ranges.first in
    let size : SFits w64 c.args.ring.size = search rules in
    let before : SFits w64 c.in-Some.before = search rules in
    let sub : SomeIff (Some c.in-Some.before) (SFits w64 (c.args.after -ℤ c.args.ring.size)) (c.args.after -ℤ c.args.ring.size) = rw c.in-Some.is at (simp to_z-of_z at c.checked_sub.ensures) in
    let next : SFits w64 c.start_past.result = search rules in
    let is : IsNextOnGrid c.args.ring.period c.in-Some.before c.start_past.result = simp to_z-of_z at c.start_past.ensures in
    let most : SFits w64 c.max.result = search rules in
    let max_is : c.max.result ≡ int_max c.args.first c.start_past.result = simp to_z-of_z at c.max.ensures.value in
    let past : IsFirstPast c.args.ring c.args.first c.args.after c.max.result = later_past c.args.ring c.args.first c.args.after c.in-Some.before c.start_past.result c.max.result c.requires.first is sub.1 max_is in
    simp to_z-of_z past

pub returns-in-None : goal.returns-in-None
returns-in-None c =
    let after : SFits w64 c.args.after = c.ranges.after in
    let first : SFits w64 c.args.first = c.ranges.first in
    let size : SFits w64 c.args.ring.size = search rules in
    let none : SomeIff {T = ℤ} None (SFits w64 (c.args.after -ℤ c.args.ring.size)) (c.args.after -ℤ c.args.ring.size) = rw c.in-None.is at (simp to_z-of_z at c.checked_sub.ensures) in
    let past : IsFirstPast c.args.ring c.args.first c.args.after c.args.first = (
      c.requires.first,
      none_ended c.args.after c.args.ring.size c.args.first c.args.first (c.args.first +ℤ c.args.ring.size) none after first (omega (arith, ints, c.requires.ring.period_low, c.requires.ring.period_high)) (omega (arith, ints)) refl,
      λ other on from ends. from,
    ) in
    simp to_z-of_z past
