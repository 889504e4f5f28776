-- Worked intervals that comparisons narrow: ends cut, and all of it where nothing would be left.
use Rattle.std.specs.Prelude.{◌≡◌, refl, pos, negsuc}
use Rattle.wsm_interval.specs.declared.comparison.Comparison.TheVariants.{Eq, Ne, Lt, Le, Gt, Ge}
use Rattle.wsm_interval.specs.Interval.{interval}
use Rattle.wsm_interval.specs.Narrowing.{narrow}

eq_inside : narrow Eq (pos 5) (interval (pos 0) (pos 100)) ≡ interval (pos 5) (pos 5)
eq_inside = refl

eq_outside : narrow Eq (pos 101) (interval (pos 0) (pos 100)) ≡ interval (pos 0) (pos 100)
eq_outside = refl

ne_lower : narrow Ne (pos 0) (interval (pos 0) (pos 100)) ≡ interval (pos 1) (pos 100)
ne_lower = refl

ne_upper : narrow Ne (pos 100) (interval (pos 0) (pos 100)) ≡ interval (pos 0) (pos 99)
ne_upper = refl

ne_between : narrow Ne (pos 0) (interval (negsuc 4) (pos 5)) ≡ interval (negsuc 4) (pos 5)
ne_between = refl

ne_alone : narrow Ne (pos 7) (interval (pos 7) (pos 7)) ≡ interval (pos 7) (pos 7)
ne_alone = refl

ne_least : narrow Ne (negsuc 9223372036854775807) (interval (negsuc 9223372036854775807) (negsuc 9223372036854775807)) ≡ interval (negsuc 9223372036854775807) (negsuc 9223372036854775807)
ne_least = refl

lt_inside : narrow Lt (pos 5) (interval (pos 0) (pos 100)) ≡ interval (pos 0) (pos 4)
lt_inside = refl

lt_lower : narrow Lt (pos 0) (interval (pos 0) (pos 100)) ≡ interval (pos 0) (pos 100)
lt_lower = refl

lt_least : narrow Lt (negsuc 9223372036854775807) (interval (negsuc 9223372036854775807) (pos 5)) ≡ interval (negsuc 9223372036854775807) (pos 5)
lt_least = refl

le_lower : narrow Le (pos 0) (interval (pos 0) (pos 100)) ≡ interval (pos 0) (pos 0)
le_lower = refl

le_below : narrow Le (negsuc 0) (interval (pos 0) (pos 100)) ≡ interval (pos 0) (pos 100)
le_below = refl

gt_inside : narrow Gt (pos 5) (interval (pos 0) (pos 100)) ≡ interval (pos 6) (pos 100)
gt_inside = refl

gt_upper : narrow Gt (pos 100) (interval (pos 0) (pos 100)) ≡ interval (pos 0) (pos 100)
gt_upper = refl

gt_greatest : narrow Gt (pos 9223372036854775807) (interval (negsuc 4) (pos 9223372036854775807)) ≡ interval (negsuc 4) (pos 9223372036854775807)
gt_greatest = refl

ge_upper : narrow Ge (pos 100) (interval (pos 0) (pos 100)) ≡ interval (pos 100) (pos 100)
ge_upper = refl

ge_past : narrow Ge (pos 101) (interval (pos 0) (pos 100)) ≡ interval (pos 0) (pos 100)
ge_past = refl
