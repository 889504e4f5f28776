use Rattle.std.proofs.Common.{rules, SFits, w64, arith, ◌≡◌, ℤ, ◌≤ℤ◌, true, refl, to_z, of_z}
use Rattle.std.specs.Prelude.{int_le}
use Rattle.std.specs.Int.{w128, int_min, int_max}
use Rattle.std.proofs.lemmas.Int.{ints, clamps, to_z-of_z}
use Rattle.wsm_interval.specs.declared.interval.Interval.{Interval}
use Rattle.wsm_interval.specs.Interval.{interval}
use Rattle.wsm_interval.specs.Narrowing.{part}
use Rattle.wsm_interval.proofs.Wide.{min_is, max_is, end_is, end_of_part}
use Rattle.wsm_interval.proofs.interval.Interval.part.Goals as goal

ends_are : (x : Interval) (a b lo hi : ℤ) → int_le (int_max x.lo lo) (int_min x.hi hi) ≡ true → a ≡ int_max x.lo lo → b ≡ int_min x.hi hi → interval a b ≡ part x lo hi
ends_are x a b lo hi t e f = rw (t, e, f) refl

lies : (a b x y lo hi : ℤ) → a ≡ int_max x lo → b ≡ int_min y hi → int_le a b ≡ true → (x ≤ℤ a) × (a ≤ℤ y) × (x ≤ℤ b) × (b ≤ℤ y)
lies a b x y lo hi e f h =
    let le : a ≤ℤ b = omega (arith, ints) in
    (omega (arith, ints, clamps), omega (arith, ints, clamps), omega (arith, ints, clamps), omega (arith, ints, clamps))

made : (x : Interval) (a b lo hi : ℤ) → SFits w64 x.lo → SFits w64 x.hi → a ≡ int_max x.lo lo → b ≡ int_min x.hi hi → int_le a b ≡ true
    → interval (to_z w64 (of_z w64 (to_z w128 (of_z w128 a)))) (to_z w64 (of_z w64 (to_z w128 (of_z w128 b)))) ≡ part x lo hi
made x a b lo hi f g e h t =
    let l = lies a b x.lo x.hi lo hi e h t in
    let order : int_le (int_max x.lo lo) (int_min x.hi hi) ≡ true = rw (← e, ← h) t in
    rw (end_of_part a a x.lo x.hi f g l.0 l.1 refl, end_of_part b b x.lo x.hi f g l.2 l.3 refl) (ends_are x a b lo hi order e h)

pub returns-then-lo-hi : goal.returns-then-lo-hi
returns-then-lo-hi c =
    let a : SFits w64 c.args.self.lo = search rules in
    let b : SFits w64 c.args.self.hi = search rules in
    let f : SFits w128 c.max-lo.result = record { sfits = c.max-lo.type_inv } in
    let g : SFits w128 c.min-hi.result = record { sfits = c.min-hi.type_inv } in
    let low = max_is _ _ _ _ _ c.max-lo.ensures.value (end_is _ _ a c.ends-a.ensures.low) (to_z-of_z w128 c.args.lo c.ranges.lo) in
    let high = min_is _ _ _ _ _ c.min-hi.ensures.value (end_is _ _ b c.ends-a.ensures.high) (to_z-of_z w128 c.args.hi c.ranges.hi) in
    let order = rw (to_z-of_z w128 c.max-lo.result f, to_z-of_z w128 c.min-hi.result g) at c.if-lo-hi.true in
    made c.args.self _ _ c.args.lo c.args.hi a b low high order
