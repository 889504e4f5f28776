-- The numbers that cells write: an optional minus, and then one ASCII digit or more, with a value of 64 bits.
use Rattle.std.specs.Prelude.{ℕ, ◌+◌, ◌-◌, ◌*◌, ◌^◌, Bool, true, false, ◌&&◌, ◌==◌, nat_lt, List, [], ◌∷◌, length, ℤ, pos, neg_ℤ, int_le, Option, Some, None, if◌then◌else◌, codes, ◌≡◌, refl, negsuc}
use Rattle.std.specs.List.{list_all}
use Rattle.wsm_record.specs.Name.{is_digit}

-- one digit or more, and nothing else
abbrev pub is_numeral : List ℕ → Bool
is_numeral [] = false
is_numeral (c ∷ cs) = is_digit c && list_all is_digit cs

-- what digits stand for: each counts by its place
abbrev pub digits_value : List ℕ → ℕ
digits_value [] = 0
digits_value (c ∷ cs) = (c - 48) * 10 ^ length cs + digits_value cs

-- a number of 64 bits
abbrev pub in_range : ℤ → Option ℤ
in_range n = if int_le (neg_ℤ (pos (2 ^ 63))) n && int_le n (pos (2 ^ 63 - 1)) then Some n else None

abbrev pub signed : Bool → ℕ → ℤ
signed negative n = if negative then neg_ℤ (pos n) else pos n

-- what digits stand for behind a minus, or with none
abbrev pub number_of_digits : Bool → List ℕ → Option ℤ
number_of_digits negative digits = if is_numeral digits then in_range (signed negative (digits_value digits)) else None

abbrev pub minus : ℕ
minus = 45

-- the number that a cell writes, if it writes one
abbrev pub number_of : List ℕ → Option ℤ
number_of [] = None
number_of (c ∷ cs) = if c == minus then number_of_digits true cs else number_of_digits false (c ∷ cs)

-- what digits alone stand for, where 64 bits without a sign hold it
abbrev pub magnitude_of : List ℕ → Option ℕ
magnitude_of digits = if is_numeral digits && nat_lt (digits_value digits) (2 ^ 64) then Some (digits_value digits) else None

-- what digits alone stand for behind a number
abbrev pub magnitude_behind : ℕ → List ℕ → Option ℕ
magnitude_behind front digits = if list_all is_digit digits then Some (front * 10 ^ length digits + digits_value digits) else None

-- bytes are digits, and stand for a number
pub record AreDigitsOf (bytes : List ℕ) (n : ℕ) : Type 0 where
  pub digits : list_all is_digit bytes ≡ true
  pub value : n ≡ digits_value bytes

zeros_in_front : number_of (codes "007") ≡ Some (pos 7)
zeros_in_front = refl

a_minus_before_zero : number_of (codes "-0") ≡ Some (pos 0)
a_minus_before_zero = refl

many_zeros : number_of (codes "-0000000000000000000000000000000000000042") ≡ Some (negsuc 41)
many_zeros = refl

the_greatest : number_of (codes "9223372036854775807") ≡ Some (pos 9223372036854775807)
the_greatest = refl

past_the_greatest : number_of (codes "9223372036854775808") ≡ None
past_the_greatest = refl

the_least : number_of (codes "-9223372036854775808") ≡ Some (negsuc 9223372036854775807)
the_least = refl

past_the_least : number_of (codes "-9223372036854775809") ≡ None
past_the_least = refl

a_plus : number_of (codes "+5") ≡ None
a_plus = refl

a_blank_in_front : number_of (codes " 5") ≡ None
a_blank_in_front = refl

a_blank_behind : number_of (codes "5 ") ≡ None
a_blank_behind = refl

a_minus_alone : number_of (codes "-") ≡ None
a_minus_alone = refl

two_minuses : number_of (codes "--5") ≡ None
two_minuses = refl

no_byte : number_of [] ≡ None
no_byte = refl
