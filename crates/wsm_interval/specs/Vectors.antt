-- Worked intervals: rounding towards zero, ends that leave 64 bits, divisors around 0.
use Rattle.std.specs.Prelude.{◌≡◌, refl, pos, negsuc, Some, None}
use Rattle.wsm_interval.specs.Interval.{interval, add, sub, mul, div, rem, neg, hull}

add_small : add (interval (pos 1) (pos 2)) (interval (pos 3) (pos 4)) ≡ Some (interval (pos 4) (pos 6))
add_small = refl

add_past : add (interval (pos 0) (pos 9223372036854775807)) (interval (pos 0) (pos 1)) ≡ None
add_past = refl

sub_small : sub (interval (pos 0) (pos 5)) (interval (pos 1) (pos 7)) ≡ Some (interval (negsuc 6) (pos 4))
sub_small = refl

sub_past : sub (interval (negsuc 9223372036854775807) (pos 0)) (interval (pos 1) (pos 1)) ≡ None
sub_past = refl

neg_small : neg (interval (negsuc 2) (pos 5)) ≡ Some (interval (negsuc 4) (pos 3))
neg_small = refl

neg_least : neg (interval (negsuc 9223372036854775807) (pos 0)) ≡ None
neg_least = refl

mul_signs : mul (interval (negsuc 1) (pos 3)) (interval (negsuc 4) (pos 7)) ≡ Some (interval (negsuc 14) (pos 21))
mul_signs = refl

mul_past : mul (interval (pos 4294967296) (pos 4294967296)) (interval (pos 2147483648) (pos 2147483648)) ≡ None
mul_past = refl

div_towards_zero : div (interval (negsuc 6) (pos 7)) (interval (pos 2) (pos 3)) ≡ Some (interval (negsuc 2) (pos 3))
div_towards_zero = refl

div_around_zero : div (interval (pos 1) (pos 9)) (interval (negsuc 0) (pos 1)) ≡ None
div_around_zero = refl

div_least : div (interval (negsuc 9223372036854775807) (pos 0)) (interval (negsuc 0) (negsuc 0)) ≡ None
div_least = refl

rem_signs : rem (interval (negsuc 6) (pos 9)) (interval (negsuc 3) (negsuc 1)) ≡ Some (interval (negsuc 2) (pos 3))
rem_signs = refl

rem_zero : rem (interval (pos 5) (pos 9)) (interval (pos 0) (pos 3)) ≡ None
rem_zero = refl

rem_all : rem (interval (negsuc 9223372036854775807) (pos 9223372036854775807)) (interval (negsuc 9223372036854775807) (negsuc 0)) ≡ Some (interval (negsuc 9223372036854775806) (pos 9223372036854775807))
rem_all = refl

rem_least : rem (interval (negsuc 9223372036854775807) (negsuc 9223372036854775807)) (interval (negsuc 0) (negsuc 0)) ≡ Some (interval (pos 0) (pos 0))
rem_least = refl

hull_apart : hull (interval (pos 1) (pos 2)) (interval (negsuc 3) (negsuc 2)) ≡ interval (negsuc 3) (pos 2)
hull_apart = refl
