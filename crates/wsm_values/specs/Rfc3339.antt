-- RFC 3339, section 5.6: the form of a text that names an instant.
use Rattle.std.specs.Prelude.{ℕ, ◌==◌, ◌&&◌, ◌||◌, ℤ, List, [], ◌∷◌, Bool, true, false, nat_lt, if◌then◌else◌, Option, Some, None, option_map, option_and_then, Result, Ok, Err, codes}
use Rattle.std.specs.Char.{is_ascii_digit}
use Rattle.jiff_fmt.specs.Temporal.{parse_timestamp}

-- what a letter of a form stands for: 0 for a digit, T for a T of either case or a space, and any other for itself
abbrev pub stands_for : ℕ → ℕ → Bool
stands_for letter byte =
    if letter == 48 then is_ascii_digit byte
    else (if letter == 84 then (byte == 84) || (byte == 116) || (byte == 32) else byte == letter)

-- what stands behind a form, where the text begins with it
abbrev pub behind : List ℕ → List ℕ → Option (List ℕ)
behind [] text = Some text
behind (letter ∷ form) [] = None
behind (letter ∷ form) (byte ∷ text) = if stands_for letter byte then behind form text else None

-- what stands behind the digits that the text begins with
abbrev pub behind_digits : List ℕ → List ℕ
behind_digits [] = []
behind_digits (byte ∷ text) = if is_ascii_digit byte then behind_digits text else byte ∷ text

-- full-date "T" time-hour ":" time-minute ":" time-second
abbrev pub behind_seconds : List ℕ → Option (List ℕ)
behind_seconds text = behind (codes "0000-00-00T00:00:00") text

-- [time-secfrac], "." 1*DIGIT
abbrev pub behind_fraction : List ℕ → Option (List ℕ)
behind_fraction [] = Some []
behind_fraction (byte ∷ text) =
    if byte == 46 then option_map behind_digits (behind (codes "0") text) else Some (byte ∷ text)

-- the text begins with less than 24, where it begins with two digits
abbrev pub is_hour : List ℕ → Bool
is_hour [] = false
is_hour (tens ∷ []) = false
is_hour (tens ∷ (ones ∷ text)) = nat_lt tens 50 || ((tens == 50) && nat_lt ones 52)

-- nothing stands there
abbrev pub is_end : Option (List ℕ) → Bool
is_end None = false
is_end (Some []) = true
is_end (Some (byte ∷ text)) = false

-- time-offset = "Z" / time-numoffset, ("+" / "-") time-hour ":" time-minute
abbrev pub is_offset : List ℕ → Bool
is_offset [] = false
is_offset (byte ∷ text) =
    if (byte == 90) || (byte == 122) then is_end (Some text)
    else (if (byte == 43) || (byte == 45) then is_hour text && is_end (behind (codes "00:00") text) else false)

abbrev pub is_some_offset : Option (List ℕ) → Bool
is_some_offset None = false
is_some_offset (Some text) = is_offset text

-- date-time
abbrev pub is_rfc3339 : List ℕ → Bool
is_rfc3339 text = is_some_offset (option_and_then behind_fraction (behind_seconds text))

abbrev pub read_instant : {E : Type 0} → Result ℤ E → Option ℤ
read_instant (Ok nanos) = Some nanos
read_instant (Err e) = None

-- the instant of a text, in nanoseconds since 1970, where it has the form and its numbers are in range; a second of 60 is read as 59
abbrev pub rfc3339_instant : List ℕ → Option ℤ
rfc3339_instant text = if is_rfc3339 text then read_instant (parse_timestamp text) else None
