-- What a text is read as: the whole records from its front on, how many bytes they take, and what stands behind them.
use Rattle.std.specs.Prelude.{ℕ, ◌+◌, ◌-◌, ◌*◌, ◌^◌, ◌==◌, ◌&&◌, ◌||◌, nat_le, nat_lt, List, [], ◌∷◌, ◌++◌, length, take, drop, slice_range, Bool, true, false, if◌then◌else◌, zero, suc, Option, Some, None, option_map, option_and_then}
use Rattle.std.specs.Option.{option_map_or}
use Rattle.wsm_sums.specs.Crc.{sum_of}
use Rattle.wsm_journal.specs.Text.{Entry, is_mark, follows}
use Rattle.wsm_journal.specs.declared.reading.Behind.{Behind}
use Rattle.wsm_journal.specs.declared.reading.Behind.TheVariants.{Nothing, Torn, Damage}

abbrev pub is_digit : ℕ → Bool
is_digit byte = nat_le 48 byte && nat_le byte 57

-- a number with one digit more: none goes behind a zero that begins, nor past 64 bits
abbrev pub with_digit : ℕ → ℕ → Option ℕ
with_digit value byte = if is_digit byte && (nat_lt 0 value && nat_lt (value * 10 + (byte - 48)) (2 ^ 64)) then Some (value * 10 + (byte - 48)) else None

-- a number of which digits were read, and the text behind its comma
abbrev pub number_from : ℕ → List ℕ → Option (ℕ × List ℕ)
number_from value [] = None
number_from value (byte ∷ text) = if byte == 44 then Some (value, text) else option_and_then (λ more. number_from more text) (with_digit value byte)

-- the number that a text begins with, and the text behind its comma
abbrev pub number_of : List ℕ → Option (ℕ × List ℕ)
number_of [] = None
number_of (byte ∷ text) = if is_digit byte then number_from (byte - 48) text else None

-- where a line ends
abbrev pub line_end_from : ℕ → List ℕ → Option ℕ
line_end_from i [] = None
line_end_from i (byte ∷ text) = if byte == 10 then Some i else line_end_from (i + 1) text

-- the position that a text begins with, and the text behind its line
abbrev pub position_of : List ℕ → Option (List ℕ × List ℕ)
position_of text = option_and_then (λ end. if nat_le end 1024 then Some (take end text, drop (end + 1) text) else None) (line_end_from 0 text)

-- the line behind a record's lines: what it says, its bytes up to the sum, and how many bytes it takes
pub record Mark : Type 0 where
  pub number : ℕ
  pub bytes : ℕ
  pub lines : ℕ
  pub sum : ℕ
  pub head : List ℕ
  pub position : List ℕ
  pub size : ℕ

-- the bytes of a text that stand in front of those that are left of it
abbrev pub in_front : List ℕ → List ℕ → List ℕ
in_front text left = take (length text - length left) text

abbrev pub mark_with : List ℕ → (number bytes : ℕ) → (lines sum : ℕ × List ℕ) → List ℕ × List ℕ → Mark
mark_with text number bytes lines sum position = record {
  number = number;
  bytes = bytes;
  lines = lines.0;
  sum = sum.0;
  head = in_front text lines.1;
  position = position.0;
  size = length text - length position.1;
}

-- the line that a text begins with, if it is one
unfoldable pub mark_of : List ℕ → Option Mark
mark_of text = if is_mark text then
    option_and_then (λ number. option_and_then (λ bytes. option_and_then (λ lines. option_and_then (λ sum. option_map (λ position.
    mark_with text number.0 bytes.0 lines sum position)
    (position_of sum.1)) (number_of lines.1)) (number_of bytes.1)) (number_of number.1)) (number_of (drop 3 text)) else None

-- a record that is whole, and where its text ends
pub record Whole : Type 0 where
  pub entry : Entry
  pub end : ℕ

abbrev pub entry_of : List ℕ → Mark → Entry
entry_of rows m = record { number = m.number; lines = m.lines; rows = rows; position = m.position }

-- the bytes in front of a place that a line there says are its record's
abbrev pub rows_of : List ℕ → ℕ → Mark → List ℕ
rows_of text at m = slice_range text (at - m.bytes) at

-- the line has the sum of these bytes and of itself
abbrev pub is_sum : List ℕ → Mark → Bool
is_sum rows m = m.sum == sum_of (rows ++ (m.head ++ m.position))

abbrev pub whole_with : List ℕ → ℕ → Mark → Option Whole
whole_with text at m =
    if nat_le m.bytes at && is_sum (rows_of text at m) m then Some (record { entry = entry_of (rows_of text at m) m; end = at + m.size }) else None

-- the whole record of which the last line begins at a place of a text
unfoldable pub whole_at : List ℕ → ℕ → Option Whole
whole_at text at = option_and_then (whole_with text at) (mark_of (drop at text))

-- where the first line begins that begins with `at,`
abbrev pub mark_from : ℕ → Bool → List ℕ → Option ℕ
mark_from i begins [] = None
mark_from i begins (byte ∷ text) = if begins && is_mark (byte ∷ text) then Some i else mark_from (i + 1) (byte == 10) text

-- the record has all bytes in front of that line, and its number follows
abbrev pub whole_if : Option ℕ → ℕ → Whole → Option Whole
whole_if last at found = if length found.entry.rows == at && follows last found.entry.number then Some found else None

-- the record that a text begins with, if that is whole
unfoldable pub next_whole : Option ℕ → List ℕ → Option Whole
next_whole last text = option_and_then (λ at. option_and_then (whole_if last at) (whole_at text at)) (mark_from 0 true text)

-- a number comes later than the last one, if there is one
abbrev pub is_later : Option ℕ → ℕ → Bool
is_later None number = true
is_later (Some last) number = nat_lt last number

-- a line may be the last one of a record that comes later: a line begins there, or it says that the record has no other
abbrev pub may_be_later : Option ℕ → Bool → Mark → Bool
may_be_later last begins m = (begins || m.bytes == 0) && is_later last m.number

-- of a record that is whole the last line begins where a line does, or it has no other; and its number comes later
abbrev pub is_later_at : Option ℕ → Bool → Whole → Bool
is_later_at last begins found = (begins || length found.entry.rows == 0) && is_later last found.entry.number

-- one that comes later is whole at a place, of which it is told whether a line begins there
abbrev pub is_whole_later : Option ℕ → Bool → Option Whole → Bool
is_whole_later last begins found = option_map_or (is_later_at last begins) found false

-- one that comes later is whole somewhere from a place on; the third text is what stands from there on
abbrev pub later_from : Option ℕ → List ℕ → ℕ → Bool → List ℕ → Bool
later_from last text i begins [] = false
later_from last text i begins (byte ∷ rest) = is_whole_later last begins (whole_at text i) || later_from last text (i + 1) (byte == 10) rest

-- a record that comes later is whole in a text
abbrev pub is_damaged : Option ℕ → List ℕ → Bool
is_damaged last text = later_from last text 0 true text

-- what stands behind the last whole record
abbrev pub behind_of : Option ℕ → List ℕ → Behind
behind_of last [] = Nothing
behind_of last (byte ∷ text) = if is_damaged last (byte ∷ text) then Damage else Torn

pub record Reading : Type 0 where
  pub entries : List Entry
  pub size : ℕ
  pub behind : Behind

abbrev pub reading_with : List Entry → ℕ → Behind → Reading
reading_with entries size behind = record { entries = entries; size = size; behind = behind }

abbrev pub with_whole : Whole → Reading → Reading
with_whole found r = reading_with (found.entry ∷ r.entries) (found.end + r.size) r.behind

-- behind a record of this number, with some bytes to be passed over that were read
unfoldable pub read_from : Option ℕ → ℕ → List ℕ → Reading
read_from last skip [] = reading_with [] 0 Nothing
read_from last (suc skip) (byte ∷ text) = read_from last skip text
read_from last zero (byte ∷ text) =
    option_map_or (λ found. with_whole found (read_from (Some found.entry.number) (found.end - 1) text)) (next_whole last (byte ∷ text)) (reading_with [] 0 (behind_of last (byte ∷ text)))

-- what a text is read as
abbrev pub read_journal : List ℕ → Reading
read_journal text = read_from None 0 text
