-- A decimal text, read to a whole number of parts: with scale 2, `1.234,50` is 123450. Nothing is cut
-- and nothing rounded: digits behind the last part are refused, and missing ones are zeros.
use Rattle.std.specs.Prelude.{ℕ, zero, suc, ◌+◌, ◌-◌, ◌*◌, ◌^◌, ◌==◌, ◌&&◌, ℤ, pos, neg_ℤ, List, [], ◌∷◌, Bool, true, false, nat_lt, nat_le, if◌then◌else◌, Option, Some, None, option_and_then}
use Rattle.std.specs.Char.{is_ascii_digit}
use Rattle.wsm_values.specs.declared.decimal.DecimalForm.{DecimalForm}
use Rattle.wsm_values.specs.declared.decimal.Digits.{Digits}

-- with a point, no groups, and so many digits of a fraction
abbrev pub plain : ℕ → DecimalForm
plain scale = record { point = 46; group = None; scale = scale }

-- the number with a digit behind it, up to 2^63
abbrev pub grown : ℕ → ℕ → Option ℕ
grown value digit = if nat_le (value * 10 + digit) (2 ^ 63) then Some (value * 10 + digit) else None

-- the number with so many zeros behind it
abbrev pub padded : ℕ → ℕ → Option ℕ
padded value zero = Some value
padded value (suc zeros) = option_and_then (λ more. padded more zeros) (grown value 0)

-- a number or its whole part may end here: there are digits, and three behind a sign between groups
abbrev pub ends_well : Digits → Bool
ends_well d = if d.grouped then d.run == 3 else nat_lt 0 d.run

-- a sign between groups may come: behind one to three digits, and behind three from then on
abbrev pub may_group : Digits → Bool
may_group d = if d.grouped then d.run == 3 else nat_lt 0 d.run && nat_le d.run 3

-- a digit more: of the whole part, or of the fraction, where it has room
abbrev pub with_digit : Digits → Option ℕ → ℕ → Option Digits
with_digit d None value = Some (record { value = value; run = if nat_lt d.run 3 then d.run + 1 else 4; grouped = d.grouped; left = None })
with_digit d (Some left) value =
    if left == 0 then None else Some (record { value = value; run = d.run; grouped = d.grouped; left = Some (left - 1) })

-- the point: a fraction of so many digits at most begins
abbrev pub with_point : ℕ → Digits → Option Digits
with_point scale d = if ends_well d then Some (record { value = d.value; run = d.run; grouped = d.grouped; left = Some scale }) else None

-- a sign between groups: a group begins
abbrev pub with_group : Digits → Option Digits
with_group d = if may_group d then Some (record { value = d.value; run = 0; grouped = true; left = None }) else None

-- the byte stands between groups
abbrev pub is_group : Option ℕ → ℕ → Bool
is_group None byte = false
is_group (Some group) byte = group == byte

-- what is no digit: the point or a sign between groups, and nothing of the kind in a fraction
abbrev pub with_sign : DecimalForm → Digits → Option ℕ → ℕ → Option Digits
with_sign form d (Some left) byte = None
with_sign form d None byte =
    if byte == form.point then with_point form.scale d
    else (if is_group form.group byte then with_group d else None)

-- what has been read with one byte more
abbrev pub step : DecimalForm → Digits → ℕ → Option Digits
step form d byte =
    if is_ascii_digit byte
    then option_and_then (with_digit d d.left) (grown d.value (byte - 48))
    else with_sign form d d.left byte

-- the parts, where the text may end here: a fraction has a digit at least
abbrev pub finish_at : DecimalForm → Digits → Option ℕ → Option ℕ
finish_at form d None = if ends_well d then padded d.value form.scale else None
finish_at form d (Some left) = if nat_lt left form.scale then padded d.value left else None

abbrev pub finish : DecimalForm → Digits → Option ℕ
finish form d = finish_at form d d.left

abbrev pub run_from : DecimalForm → Digits → List ℕ → Option ℕ
run_from form d [] = finish form d
run_from form d (byte ∷ text) = option_and_then (λ next. run_from form next text) (step form d byte)

-- nothing has been read
abbrev pub no_digits : Digits
no_digits = record { value = 0; run = 0; grouped = false; left = None }

-- the parts that a decimal without its sign has
abbrev pub magnitude_of : DecimalForm → List ℕ → Option ℕ
magnitude_of form text = run_from form no_digits text

-- the number with its sign, where it fits 64 bits
abbrev pub signed : Bool → ℕ → Option ℤ
signed true parts = if nat_le parts (2 ^ 63) then Some (neg_ℤ (pos parts)) else None
signed false parts = if nat_lt parts (2 ^ 63) then Some (pos parts) else None

-- the parts that a decimal has
unfoldable pub decimal_of : DecimalForm → List ℕ → Option ℤ
decimal_of form [] = None
decimal_of form (first ∷ rest) =
    if first == 45
    then option_and_then (signed true) (magnitude_of form rest)
    else option_and_then (signed false) (magnitude_of form (first ∷ rest))
