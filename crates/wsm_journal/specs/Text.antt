-- A journal is the text of its records, one behind the other. A record's text is some lines, of which none begins with
-- `at,`, and behind them the line
--     at,NUMBER,BYTES,LINES,SUM,POSITION
-- with the number of the record, how many bytes those lines take, how many lines of the log they came from, the CRC-32 of
-- those bytes and of this line without its sum, and where in the log its source stands.
use Rattle.std.specs.Prelude.{◌≡◌, ◌<◌, ℕ, ◌+◌, ◌^◌, ◌==◌, ◌&&◌, not, nat_eq, nat_le, List, [], ◌∷◌, ◌++◌, length, Bool, true, Option, Some, None, codes}
use Rattle.std.specs.List.{starts_with, list_all}
use Rattle.std.specs.Fmt.{decimal}
use Rattle.wsm_sums.specs.Crc.{sum_of}

pub record Entry : Type 0 where
  pub number : ℕ
  pub lines : ℕ
  -- the bytes of its lines, each with its line feed
  pub rows : List ℕ
  pub position : List ℕ

-- a text begins as the line behind a record's lines
abbrev pub is_mark : List ℕ → Bool
is_mark text = starts_with nat_eq text (codes "at,")

-- that line up to its sum
unfoldable pub head_text : (number bytes lines : ℕ) → List ℕ
head_text number bytes lines = codes "at," ++ (decimal number ++ (44 ∷ (decimal bytes ++ (44 ∷ (decimal lines ++ (44 ∷ []))))))

unfoldable pub entry_head : Entry → List ℕ
entry_head e = head_text e.number (length e.rows) e.lines

unfoldable pub entry_sum : Entry → ℕ
entry_sum e = sum_of (e.rows ++ (entry_head e ++ e.position))

unfoldable pub mark_text : Entry → List ℕ
mark_text e = entry_head e ++ (decimal (entry_sum e) ++ (44 ∷ (e.position ++ (10 ∷ []))))

unfoldable pub record_text : Entry → List ℕ
record_text e = e.rows ++ mark_text e

abbrev pub journal_text : List Entry → List ℕ
journal_text [] = []
journal_text (e ∷ es) = record_text e ++ journal_text es

-- whole lines, of which none begins with `at,`; what is before them ends a line or doesn't
abbrev pub are_rows_from : Bool → List ℕ → Bool
are_rows_from begins [] = begins
are_rows_from begins (byte ∷ rows) = not (begins && is_mark (byte ∷ rows)) && are_rows_from (byte == 10) rows

-- bytes end a line; what is before them ends one or doesn't
abbrev pub ends_line_from : Bool → List ℕ → Bool
ends_line_from begins [] = begins
ends_line_from begins (byte ∷ bytes) = ends_line_from (byte == 10) bytes

abbrev pub are_rows : List ℕ → Bool
are_rows rows = are_rows_from true rows

-- some bytes without a line feed, and not too many
abbrev pub has_no_line_feed : List ℕ → Bool
has_no_line_feed bytes = list_all (λ byte. not (byte == 10)) bytes

abbrev pub is_position : List ℕ → Bool
is_position position = nat_le (length position) 1024 && has_no_line_feed position

-- a record that can be written
pub record IsRecord (e : Entry) : Type 0 where
  pub rows : are_rows e.rows ≡ true
  pub position : is_position e.position ≡ true
  pub number : e.number < 2 ^ 64
  pub lines : e.lines < 2 ^ 64
  pub size : length e.rows < 2 ^ 64
  pub sum : entry_sum e < 2 ^ 64

-- the number of a record rises by one from the last one's, if there is one
abbrev pub follows : Option ℕ → ℕ → Bool
follows None number = true
follows (Some last) number = number == last + 1

-- records that can be written behind one of this number
abbrev pub AreRecords : Option ℕ → List Entry → Type 0
AreRecords last [] = Unit {0}
AreRecords last (e ∷ es) = IsRecord e × (follows last e.number ≡ true) × AreRecords (Some e.number) es

-- the number of the last record of some, or what was the last before
abbrev pub last_number : Option ℕ → List Entry → Option ℕ
last_number last [] = last
last_number last (e ∷ es) = last_number (Some e.number) es
