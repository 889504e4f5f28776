-- Seconds since 1970 with a fraction of at most nine digits. Nothing is cut: a tenth digit is refused, and missing ones are zeros.
use Rattle.std.specs.Prelude.{ℕ, ◌+◌, ◌-◌, ◌*◌, ◌==◌, ℤ, pos, neg_ℤ, List, [], ◌∷◌, length, take, drop, Bool, true, false, nat_lt, if◌then◌else◌, Option, Some, None, option_map, option_and_then}
use Rattle.wsm_values.specs.Decimal.{plain, padded, magnitude_of}

-- where the first point stands
abbrev pub point_from : ℕ → List ℕ → Option ℕ
point_from i [] = None
point_from i (byte ∷ text) = if byte == 46 then Some i else point_from (i + 1) text

-- the nanoseconds of one to nine digits of a fraction
abbrev pub fraction_nanos : List ℕ → Option ℕ
fraction_nanos digits =
    if nat_lt 9 (length digits) then None
    else option_and_then (λ count. padded count (9 - length digits)) (magnitude_of (plain 0) digits)

abbrev pub signed_nanos : Bool → ℕ → ℕ → ℤ
signed_nanos true seconds nanos = neg_ℤ (pos (seconds * 1000000000 + nanos))
signed_nanos false seconds nanos = pos (seconds * 1000000000 + nanos)

-- whole seconds, and behind the point, if there is one, a fraction
abbrev pub parted : Bool → List ℕ → Option ℕ → Option ℤ
parted negative text None = option_map (λ seconds. signed_nanos negative seconds 0) (magnitude_of (plain 0) text)
parted negative text (Some at) =
    option_and_then (λ seconds. option_map (signed_nanos negative seconds) (fraction_nanos (drop (at + 1) text)))
    (magnitude_of (plain 0) (take at text))

abbrev pub seconds_in : Bool → List ℕ → Option ℤ
seconds_in negative text = parted negative text (point_from 0 text)

-- the nanoseconds of seconds with their sign
unfoldable pub seconds_of : List ℕ → Option ℤ
seconds_of [] = None
seconds_of (first ∷ rest) = if first == 45 then seconds_in true rest else seconds_in false (first ∷ rest)
