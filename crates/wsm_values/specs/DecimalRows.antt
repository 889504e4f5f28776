-- Decimals with what they are, computed.
use Rattle.std.specs.Prelude.{◌≡◌, [], pos, negsuc, Some, None, codes, refl}
use Rattle.wsm_values.specs.declared.decimal.DecimalForm.{DecimalForm}
use Rattle.wsm_values.specs.Decimal.{plain, decimal_of}

-- a comma, points between groups, and hundredths
abbrev european : DecimalForm
european = record { point = 44; group = Some 46; scale = 2 }

grouped : decimal_of european (codes "1.234,50") ≡ Some (pos 123450)
unfolding decimal_of
grouped = refl

twice_grouped : decimal_of european (codes "-12.345.678,9") ≡ Some (negsuc 1234567889)
unfolding decimal_of
twice_grouped = refl

below_zero : decimal_of european (codes "-0,5") ≡ Some (negsuc 49)
unfolding decimal_of
below_zero = refl

no_groups : decimal_of european (codes "1234567") ≡ Some (pos 123456700)
unfolding decimal_of
no_groups = refl

zeros_in_front : decimal_of european (codes "007,00") ≡ Some (pos 700)
unfolding decimal_of
zeros_in_front = refl

zero_below_zero : decimal_of european (codes "-0") ≡ Some (pos 0)
unfolding decimal_of
zero_below_zero = refl

-- a digit that doesn't count is refused and not cut, a zero too
a_digit_too_many : decimal_of european (codes "1,234") ≡ None
unfolding decimal_of
a_digit_too_many = refl

a_zero_too_many : decimal_of european (codes "1,500") ≡ None
unfolding decimal_of
a_zero_too_many = refl

a_group_of_two : decimal_of european (codes "12.34") ≡ None
unfolding decimal_of
a_group_of_two = refl

a_group_of_four : decimal_of european (codes "1.2345,00") ≡ None
unfolding decimal_of
a_group_of_four = refl

a_first_group_of_four : decimal_of european (codes "1234.567") ≡ None
unfolding decimal_of
a_first_group_of_four = refl

an_empty_group : decimal_of european (codes "1..234") ≡ None
unfolding decimal_of
an_empty_group = refl

a_group_in_the_fraction : decimal_of european (codes "1,5.0") ≡ None
unfolding decimal_of
a_group_in_the_fraction = refl

no_fraction_behind_its_point : decimal_of european (codes "12,") ≡ None
unfolding decimal_of
no_fraction_behind_its_point = refl

no_whole_part : decimal_of european (codes ",5") ≡ None
unfolding decimal_of
no_whole_part = refl

two_points : decimal_of european (codes "1,2,3") ≡ None
unfolding decimal_of
two_points = refl

a_plus : decimal_of european (codes "+1") ≡ None
unfolding decimal_of
a_plus = refl

a_space : decimal_of european (codes "1 ") ≡ None
unfolding decimal_of
a_space = refl

a_sign_alone : decimal_of european (codes "-") ≡ None
unfolding decimal_of
a_sign_alone = refl

two_signs : decimal_of european (codes "--1") ≡ None
unfolding decimal_of
two_signs = refl

nothing : decimal_of european [] ≡ None
unfolding decimal_of
nothing = refl

an_exponent : decimal_of (plain 2) (codes "1e3") ≡ None
unfolding decimal_of
an_exponent = refl

-- with a scale of 0 there is no fraction
whole : decimal_of (plain 0) (codes "-17") ≡ Some (negsuc 16)
unfolding decimal_of
whole = refl

whole_with_a_fraction : decimal_of (plain 0) (codes "17.0") ≡ None
unfolding decimal_of
whole_with_a_fraction = refl

-- the ends of 64 bits
greatest : decimal_of (plain 0) (codes "9223372036854775807") ≡ Some (pos 9223372036854775807)
unfolding decimal_of
greatest = refl

past_the_greatest : decimal_of (plain 0) (codes "9223372036854775808") ≡ None
unfolding decimal_of
past_the_greatest = refl

least : decimal_of (plain 2) (codes "-92233720368547758.08") ≡ Some (negsuc 9223372036854775807)
unfolding decimal_of
least = refl

past_the_least : decimal_of (plain 2) (codes "-92233720368547758.09") ≡ None
unfolding decimal_of
past_the_least = refl

past_by_its_scale : decimal_of (plain 2) (codes "92233720368547759") ≡ None
unfolding decimal_of
past_by_its_scale = refl
