-- Interval arithmetic (Moore 1966): what arithmetic on the values of intervals can give. Ends are computed without bound.
use Rattle.std.specs.Prelude.{Bool, ◌&&◌, cond, ℤ, pos, neg_ℤ, ◌+ℤ◌, ◌-ℤ◌, ◌*ℤ◌, ◌≤ℤ◌, int_le, int_div, unsigned_abs, Option, Some, None}
use Rattle.std.specs.Int.{int_min, int_max}
use Rattle.wsm_record.specs.Schema.{is_i64}
use Rattle.wsm_interval.specs.declared.arithmetic.Arithmetic.{Arithmetic}
use Rattle.wsm_interval.specs.declared.arithmetic.Arithmetic.TheVariants.{Add, Sub, Mul, Div, Rem}
use Rattle.wsm_interval.specs.declared.interval.Interval.{Interval}

abbrev pub interval : ℤ → ℤ → Interval
interval lo hi = record { lo = lo; hi = hi }

-- n lies in the interval
abbrev pub Holds : Interval → ℤ → Type 0
Holds x n = (x.lo ≤ℤ n) × (n ≤ℤ x.hi)

-- the same as a test
abbrev pub holds : Interval → ℤ → Bool
holds x n = int_le x.lo n && int_le n x.hi

-- an interval is given only where both ends are numbers of 64 bits
abbrev pub within_i64 : ℤ → ℤ → Option Interval
within_i64 lo hi = cond (is_i64 lo && is_i64 hi) (Some (interval lo hi)) None

abbrev pub least : ℤ → ℤ → ℤ → ℤ → ℤ
least p q r s = int_min (int_min p q) (int_min r s)

abbrev pub greatest : ℤ → ℤ → ℤ → ℤ → ℤ
greatest p q r s = int_max (int_max p q) (int_max r s)

-- from the least to the greatest of four numbers
abbrev pub around : ℤ → ℤ → ℤ → ℤ → Option Interval
around p q r s = within_i64 (least p q r s) (greatest p q r s)

abbrev pub add : Interval → Interval → Option Interval
add x y = within_i64 (x.lo +ℤ y.lo) (x.hi +ℤ y.hi)

abbrev pub sub : Interval → Interval → Option Interval
sub x y = within_i64 (x.lo -ℤ y.hi) (x.hi -ℤ y.lo)

abbrev pub neg : Interval → Option Interval
neg x = within_i64 (neg_ℤ x.hi) (neg_ℤ x.lo)

abbrev pub mul : Interval → Interval → Option Interval
mul x y = around (x.lo *ℤ y.lo) (x.lo *ℤ y.hi) (x.hi *ℤ y.lo) (x.hi *ℤ y.hi)

-- quotients are rounded towards zero; none where the divisor may be zero
abbrev pub div : Interval → Interval → Option Interval
div x y = cond (holds y (pos 0)) None (around (int_div x.lo y.lo) (int_div x.lo y.hi) (int_div x.hi y.lo) (int_div x.hi y.hi))

-- a remainder has the dividend's sign and is smaller than the divisor; m is the greatest that it can be
abbrev pub rem_within : ℤ → Interval → Option Interval
rem_within m x = within_i64 (int_max (neg_ℤ m) (int_min x.lo (pos 0))) (int_min m (int_max x.hi (pos 0)))

abbrev pub rem : Interval → Interval → Option Interval
rem x y = cond (holds y (pos 0)) None (rem_within (int_max (pos (unsigned_abs y.lo)) (pos (unsigned_abs y.hi)) -ℤ pos 1) x)

-- what arithmetic on a number of each can give
abbrev pub computed : Arithmetic → Interval → Interval → Option Interval
computed Add x y = add x y
computed Sub x y = sub x y
computed Mul x y = mul x y
computed Div x y = div x y
computed Rem x y = rem x y

-- the least interval that has both inside
abbrev pub hull : Interval → Interval → Interval
hull x y = interval (int_min x.lo y.lo) (int_max x.hi y.hi)
