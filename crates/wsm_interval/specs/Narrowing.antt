-- What a comparison that is true leaves of the interval of the number that was compared.
use Rattle.std.specs.Prelude.{cond, ℤ, pos, ◌+ℤ◌, ◌-ℤ◌, int_le}
use Rattle.std.specs.Int.{int_min, int_max}
use Rattle.std.specs.Ordering.{int_eq}
use Rattle.wsm_interval.specs.declared.interval.Interval.{Interval}
use Rattle.wsm_interval.specs.declared.comparison.Comparison.{Comparison}
use Rattle.wsm_interval.specs.declared.comparison.Comparison.TheVariants.{Eq, Ne, Lt, Le, Gt, Ge}
use Rattle.wsm_interval.specs.Interval.{interval}

-- an interval of these ends, or x where nothing lies between them
abbrev pub or_all_of : Interval → ℤ → ℤ → Interval
or_all_of x lo hi = cond (int_le lo hi) (interval lo hi) x

-- what of an interval lies from one number to another, or all of it where nothing does
abbrev pub part : Interval → ℤ → ℤ → Interval
part x lo hi = or_all_of x (int_max x.lo lo) (int_min x.hi hi)

-- the lower end, without c
abbrev pub above : ℤ → ℤ → ℤ
above lo c = cond (int_eq lo c) (c +ℤ pos 1) lo

-- the upper end, without c
abbrev pub below : ℤ → ℤ → ℤ
below hi c = cond (int_eq hi c) (c -ℤ pos 1) hi

-- what is left where a number of the interval, compared with c, is true; all of it where nothing would be left
abbrev pub narrow : Comparison → ℤ → Interval → Interval
narrow Eq c x = part x c c
narrow Ne c x = part x (above x.lo c) (below x.hi c)
narrow Lt c x = part x x.lo (c -ℤ pos 1)
narrow Le c x = part x x.lo c
narrow Gt c x = part x (c +ℤ pos 1) x.hi
narrow Ge c x = part x c x.hi
