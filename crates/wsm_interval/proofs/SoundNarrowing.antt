-- What a comparison leaves of an interval: each number of which it is true, and beside what its opposite leaves all of it.
use Rattle.std.proofs.Common.{◌≡◌, true, ℤ, arith}
use Rattle.std.proofs.lemmas.Int.{ints}
use Rattle.wsm_interval.specs.declared.interval.Interval.{Interval}
use Rattle.wsm_interval.specs.declared.comparison.Comparison.{Comparison}
use Rattle.wsm_interval.specs.declared.comparison.Comparison.TheVariants.{Eq, Ne, Lt, Le, Gt, Ge}
use Rattle.wsm_interval.specs.Interval.{Holds, hull}
use Rattle.wsm_interval.specs.Comparison.{is_true, opposite}
use Rattle.wsm_interval.specs.Narrowing.{narrow}

pub narrow_holds : (x : Interval) (o : Comparison) (c n : ℤ) → Holds x n → is_true o n c ≡ true → Holds (narrow o c x) n
narrow_holds x Eq c n h e = grind (arith, ints)
narrow_holds x Ne c n h e = grind (arith, ints)
narrow_holds x Lt c n h e = grind (arith, ints)
narrow_holds x Le c n h e = grind (arith, ints)
narrow_holds x Gt c n h e = grind (arith, ints)
narrow_holds x Ge c n h e = grind (arith, ints)

pub hull_narrowed : (x : Interval) (o : Comparison) (c : ℤ) → hull (narrow o c x) (narrow (opposite o) c x) ≡ x
hull_narrowed x Eq c = grind (arith, ints)
hull_narrowed x Ne c = grind (arith, ints)
hull_narrowed x Lt c = grind (arith, ints)
hull_narrowed x Le c = grind (arith, ints)
hull_narrowed x Gt c = grind (arith, ints)
hull_narrowed x Ge c = grind (arith, ints)
