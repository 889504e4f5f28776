-- The texts of numbers, and what a text is read as.
use Rattle.std.specs.Prelude.{ℕ, ℤ, ◌^◌, ◌==◌, nat_lt, List, [], ◌∷◌, ◌++◌, Bool, true, false, if◌then◌else◌, Option, Some, None, option_map, option_and_then}
use Rattle.std.specs.Fmt.{decimal}
use Rattle.std.specs.Int.{cast_signed, cast_unsigned, w64}
use Rattle.wsm_journal.specs.Reading.{number_of}

-- a number: its digits and a comma
unfoldable pub number_text : ℕ → List ℕ
number_text n = decimal n ++ (44 ∷ [])

-- a number with a sign: that of the same bits
abbrev pub signed_text : ℤ → List ℕ
signed_text z = number_text (cast_unsigned w64 z)

-- a truth
abbrev pub flag_text : Bool → List ℕ
flag_text flag = number_text (if flag then 1 else 0)

abbrev pub read_signed : List ℕ → Option (ℤ × List ℕ)
read_signed text = option_map (λ p. (cast_signed w64 p.0, p.1)) (number_of text)

abbrev pub flag_of : ℕ → Option Bool
flag_of n = if n == 0 then Some false else if n == 1 then Some true else None

abbrev pub read_flag : List ℕ → Option (Bool × List ℕ)
read_flag text = option_and_then (λ p. option_map (λ b. (b, p.1)) (flag_of p.0)) (number_of text)

-- a number below another
abbrev pub below : ℕ → ℕ → Option ℕ
below most n = if nat_lt n most then Some n else None

abbrev pub read_below : ℕ → List ℕ → Option (ℕ × List ℕ)
read_below most text = option_and_then (λ p. option_map (λ n. (n, p.1)) (below most p.0)) (number_of text)

abbrev pub read_short : List ℕ → Option (ℕ × List ℕ)
read_short text = read_below (2 ^ 16) text

abbrev pub read_word : List ℕ → Option (ℕ × List ℕ)
read_word text = read_below (2 ^ 32) text

abbrev pub read_byte : List ℕ → Option (ℕ × List ℕ)
read_byte text = read_below (2 ^ 8) text
