use Rattle.std.proofs.Common.{◌≡◌, Some, None, refl, ℤ, ◌<ℤ◌, ◌≤ℤ◌, SFits, w64, to_z, of_z, ◌+ℤ◌, ◌-ℤ◌, rules, ◌∙◌, ap, arith}
use Rattle.std.specs.Int.{int_min}
use Rattle.std.specs.Option.{SomeIff}
use Rattle.std.proofs.lemmas.Int.{ints, int_min_is, to_z-of_z}
use Rattle.wsm_ring.proofs.Rings.{between_fits, less_from}
use Rattle.wsm_ring.proofs.Clears.{none_ended}
use Rattle.wsm_ring.proofs.ring_table.last_due.Goals as goal

pub returns-in_err-latest : goal.returns-in_err-latest
returns-in_err-latest c =
    let limit : SFits w64 c.args.limit = c.ranges.limit in
    let first : SFits w64 c.args.first = c.ranges.first in
    let size : SFits w64 c.args.ring.size = search rules in
    let none : SomeIff {T = ℤ} None (SFits w64 (c.args.limit -ℤ c.args.ring.size)) (c.args.limit -ℤ c.args.ring.size) = rw c.in_err-latest.was at (simp to_z-of_z at c.checked_sub.ensures) in
    let past : (start : ℤ) → c.args.first ≤ℤ start → c.args.limit <ℤ (start +ℤ c.args.ring.size) = λ start from. none_ended c.args.limit c.args.ring.size c.args.first start (start +ℤ c.args.ring.size) none limit first (omega (arith, ints, c.requires.period_low, c.requires.period_high)) from refl in
    rw c.from_residual.ensures past

pub returns-then-latest-first : goal.returns-then-latest-first
returns-then-latest-first c =
    let limit : SFits w64 c.args.limit = c.ranges.limit in
    let first : SFits w64 c.args.first = c.ranges.first in
    let size : SFits w64 c.args.ring.size = search rules in
    let latest : SFits w64 c.in_ok-latest.latest = search rules in
    let sub : SomeIff (Some c.in_ok-latest.latest) (SFits w64 (c.args.limit -ℤ c.args.ring.size)) (c.args.limit -ℤ c.args.ring.size) = rw c.in_ok-latest.was at (simp to_z-of_z at c.checked_sub.ensures) in
    let less : c.in_ok-latest.latest <ℤ c.args.first = less_from _ _ (simp to_z-of_z at c.if-latest-first.true) in
    let past : (start : ℤ) → c.args.first ≤ℤ start → c.args.limit <ℤ (start +ℤ c.args.ring.size) = λ start from. omega (arith, ints, sub.1, less, from) in
    past

pub returns-else-latest-first : goal.returns-else-latest-first
returns-else-latest-first c =
    let limit : SFits w64 c.args.limit = c.ranges.limit in
    let last : SFits w64 c.args.last = c.ranges.last in
    let size : SFits w64 c.args.ring.size = search rules in
    let latest : SFits w64 c.in_ok-latest.latest = search rules in
    let least : SFits w64 c.min.result = search rules in
    let sub : SomeIff (Some c.in_ok-latest.latest) (SFits w64 (c.args.limit -ℤ c.args.ring.size)) (c.args.limit -ℤ c.args.ring.size) = rw c.in_ok-latest.was at (simp to_z-of_z at c.checked_sub.ensures) in
    let value : c.min.result ≡ int_min c.args.last c.in_ok-latest.latest = simp to_z-of_z at c.min.ensures.value in
    let z : to_z w64 (of_z w64 c.min.result) ≡ c.min.result = to_z-of_z w64 c.min.result least in
    rw z (
      value ∙ ap (int_min c.args.last) sub.1,
      between_fits c.min.result (c.min.result +ℤ c.args.ring.size) c.args.limit least limit (omega (arith, ints, c.requires.period_low, c.requires.period_high)) (omega (arith, ints, value, int_min_is c.args.last c.in_ok-latest.latest, sub.1)),
    )
