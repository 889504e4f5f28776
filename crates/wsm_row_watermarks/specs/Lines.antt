-- The lines of rows: what goes on for each, and what it says. A line is one row, always; the rules are this project's own.
use Rattle.std.specs.Prelude.{◌==◌, ◌||◌, ◌&&◌, ◌++◌, ◌-◌, ℕ, zero, suc, Bool, true, false, not, List, [], ◌∷◌, length, take, drop, Option, Some, None, Err, bytes_eq, codes, if◌then◌else◌, nat_le, nat_lt, slice_index, slice_index_or}
use Rattle.std.specs.List.{list_any, onto_first}
use Rattle.wsm_record.specs.declared.event.RowFault.{RowFault}
use Rattle.wsm_record.specs.declared.event.RowFault.TheVariants.{BadTag}
use Rattle.wsm_record.specs.Schema.{Declared}
use Rattle.wsm_csv.specs.Cells.{event_of_cells, record_tag}
use Rattle.wsm_turns.specs.Turns as turns
use Rattle.wsm_turns.specs.Turns.{spoken}
use Rattle.wsm_row_watermarks.specs.declared.row.TheConstants.{FIRST_PLACE}
use Rattle.wsm_row_watermarks.specs.declared.text.TheConstants.{LONGEST}

-- ---- the text of a line

-- a line without one carriage return at its end
abbrev pub bare : List ℕ → List ℕ
bare line = if slice_index line (length line - 1) == 13 then take (length line - 1) line else line

abbrev pub byte_order_mark : List ℕ
byte_order_mark = 239 ∷ 187 ∷ 191 ∷ []

-- a line without the byte order mark that may stand in front of the first
abbrev pub unmarked : Bool → List ℕ → List ℕ
unmarked false line = line
unmarked true line = if bytes_eq (take 3 line) byte_order_mark then drop 3 line else line

-- a byte by which a line would not be one row, or no text: a quote, a carriage return or NUL
abbrev pub is_odd : ℕ → Bool
is_odd b = (b == 34) || ((b == 13) || (b == 0))

-- a line may begin with the byte with which a byte order mark does
abbrev pub begins_marked : List ℕ → Bool
begins_marked text = slice_index text 0 == 239

abbrev pub is_plain : List ℕ → Bool
is_plain text = not (begins_marked text) && not (list_any is_odd text)

abbrev pub if_plain : Bool → List ℕ → Option (List ℕ)
if_plain plain text = if plain then Some text else None

-- the text of a line that may be the first; none where it is too long or would not be one row
abbrev pub text_of : Bool → List ℕ → Option (List ℕ)
text_of first line = let text = unmarked first (bare line) in if_plain (nat_le (length (bare line)) LONGEST && is_plain text) text

-- ---- cells

-- the cells of a text: what stands between its commas
abbrev pub cells_of : List ℕ → List (List ℕ)
cells_of [] = [] ∷ []
cells_of (b ∷ bs) = if b == 44 then [] ∷ cells_of bs else onto_first b (cells_of bs)

-- cells, each behind a comma
abbrev pub behind_commas : List (List ℕ) → List ℕ
behind_commas [] = []
behind_commas (cell ∷ cells) = 44 ∷ cell ++ behind_commas cells

-- the text of cells
abbrev pub joined : List (List ℕ) → List ℕ
joined [] = []
joined (cell ∷ cells) = cell ++ behind_commas cells

-- a list without what stands at a place, from 0 on
abbrev pub without : {A : Type 0} → ℕ → List A → List A
without place [] = []
without zero (x ∷ xs) = xs
without (suc place) (x ∷ xs) = x ∷ without place xs

-- ---- a line taken apart

-- the text that goes on for a line, its cells, and the identifier of its record, if it has one
pub record Taken : Type 0 where
  pub text : List ℕ
  pub cells : List (List ℕ)
  pub identifier : Option (List ℕ)

abbrev pub whole : List ℕ → Taken
whole text = record { text = text; cells = cells_of text; identifier = None }

-- a cell without a byte is no identifier
abbrev pub some_text : List ℕ → Option (List ℕ)
some_text [] = None
some_text (b ∷ bs) = Some (b ∷ bs)

-- the identifier stands in a cell of its own, which doesn't go on
abbrev pub taken_out : ℕ → List (List ℕ) → Taken
taken_out place cs = let rest = without place cs in record { text = joined rest; cells = rest; identifier = some_text (slice_index_or cs place []) }

-- a record with a cell at a place behind its time
abbrev pub has_cell : ℕ → List (List ℕ) → Bool
has_cell place cs = nat_le FIRST_PLACE place && (nat_lt place (length cs) && bytes_eq (slice_index_or cs 0 []) record_tag)

abbrev pub taken_if : Bool → ℕ → List ℕ → Taken
taken_if there place text = if there then taken_out place (cells_of text) else whole text

-- a text, of whose records the identifiers stand at a place, from 0 on, if they have any
abbrev pub taken_of : Option ℕ → List ℕ → Taken
taken_of None text = whole text
taken_of (Some place) text = taken_if (has_cell place (cells_of text)) place text

-- ---- what a line says

abbrev pub Said : Type 0
Said = turns.Said RowFault

-- the text that goes on for a line, and what it says
pub record Line : Type 0 where
  pub text : List ℕ
  pub said : Said

-- a line that would not be one row is `unread`
abbrev pub line_of : Declared → Option ℕ → Option (List ℕ) → Line
line_of d once None = record { text = codes "unread"; said = Err BadTag }
line_of d once (Some text) = let t = taken_of once text in record { text = t.text; said = spoken t.identifier (event_of_cells d t.cells) }

-- whether a line is the first
abbrev pub is_first : List (List ℕ) → Bool
is_first [] = true
is_first (line ∷ before) = false

-- lines, the newest first
abbrev pub lines_read : Declared → Option ℕ → List (List ℕ) → List Line
lines_read d once [] = []
lines_read d once (line ∷ before) = line_of d once (text_of (is_first before) line) ∷ lines_read d once before
