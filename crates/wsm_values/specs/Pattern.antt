-- Patterns of `strptime` with the directives that the reader takes, which is jiff's: % [-_^#0] WIDTH :{0,3} LETTER, and % .. . WIDTH f.
use Rattle.std.specs.Prelude.{ℕ, ◌+◌, ◌-◌, ◌*◌, ◌==◌, List, [], ◌∷◌, codes, Bool, true, false, nat_le, nat_lt, if◌then◌else◌, Option, Some, None, option_map}
use Rattle.std.specs.Char.{is_ascii_digit}
use Rattle.std.specs.List.{list_any}
use Rattle.wsm_values.specs.declared.pattern.Spot.{Spot}
use Rattle.wsm_values.specs.declared.pattern.Spot.TheVariants.{Text, Begun, Width, Colons, Dot}

abbrev pub is_flag : ℕ → Bool
is_flag byte = list_any (λ flag. flag == byte) (codes "-_^#0")

-- all letters of jiff's reader but Q, a zone by its name
abbrev pub is_letter : ℕ → Bool
is_letter byte = list_any (λ letter. letter == byte) (codes "%ABCDFGHIMNPRSTUVWYabdefghjklmnpstuwyz")

-- a width with a digit behind it, up to 255
abbrev pub wider : ℕ → ℕ → Option ℕ
wider width digit = if nat_le (width * 10 + digit) 255 then Some (width * 10 + digit) else None

-- behind so many colons: one more, up to three, the dot of a fraction, or the letter
abbrev pub in_colons : ℕ → ℕ → Option Spot
in_colons count byte =
    if byte == 58 then (if nat_lt count 3 then Some (Colons (count + 1)) else None)
    else (if byte == 46 then Some (Dot 0) else (if is_letter byte then Some Text else None))

abbrev pub in_width : ℕ → ℕ → Option Spot
in_width width byte = if is_ascii_digit byte then option_map Width (wider width (byte - 48)) else in_colons 0 byte

-- behind the dot of a fraction
abbrev pub in_dot : ℕ → ℕ → Option Spot
in_dot width byte =
    if is_ascii_digit byte then option_map Dot (wider width (byte - 48)) else (if byte == 102 then Some Text else None)

-- behind one more byte, where it may stand there
abbrev pub step : Spot → ℕ → Option Spot
step Text byte = if byte == 37 then Some Begun else Some Text
step Begun byte = if is_flag byte then Some (Width 0) else in_width 0 byte
step (Width width) byte = in_width width byte
step (Colons count) byte = in_colons count byte
step (Dot width) byte = in_dot width byte

-- no directive is left open
abbrev pub is_text : Spot → Bool
is_text Text = true
is_text Begun = false
is_text (Width width) = false
is_text (Colons count) = false
is_text (Dot width) = false

abbrev pub text_behind : Option Spot → List ℕ → Bool
text_behind None pattern = false
text_behind (Some spot) [] = is_text spot
text_behind (Some spot) (byte ∷ pattern) = text_behind (step spot byte) pattern

-- each directive is one that the reader takes
abbrev pub is_pattern : List ℕ → Bool
is_pattern pattern = text_behind (Some Text) pattern
