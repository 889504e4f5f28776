-- The bytes of the lines that are written: cells joined by commas, each line ended by a line feed.
use Rattle.std.specs.Prelude.{ℕ, true, false, List, [], ◌∷◌, ◌++◌, map, flat_map, slice_index_or, unwrap_or, codes}
use Rattle.std.specs.Fmt.{decimal, signed_decimal}
use Rattle.wsm_record.specs.declared.cell.Cell.{Cell}
use Rattle.wsm_record.specs.declared.cell.Cell.TheVariants.{Int, Bool as Truth, Enum}
use Rattle.wsm_record.specs.declared.event.RowFault.{RowFault}
use Rattle.wsm_record.specs.declared.event.RowFault.TheVariants.{BadTag, CellCount, BadNumber, BadName}
use Rattle.wsm_record.specs.Schema.{Declared, enum_names}
use Rattle.wsm_windows.specs.declared.window.PaneKind.{PaneKind}
use Rattle.wsm_windows.specs.declared.window.PaneKind.TheVariants as kind
use Rattle.wsm_admission.specs.declared.verdict.Refusal.{Refusal}
use Rattle.wsm_admission.specs.declared.verdict.Refusal.TheVariants.{UnknownKey, FieldRange, TimeRange, TooFarAhead, Late, RecordLimit, NotRising, UnknownSource}
use Rattle.wsm_semantics.specs.declared.out_row.OutRow.{OutRow}
use Rattle.wsm_semantics.specs.declared.out_row.OutRow.TheVariants.{Pane, Retract, Istream, Dstream, Rstream}
use Rattle.wsm_semantics.specs.Query.{Query}
use Rattle.wsm_semantics.specs.Lines.{Row, Line, Out, Faulty, Refused, End, all_lines}

abbrev pub name_at : List (List ℕ) → ℕ → List ℕ
name_at names i = slice_index_or names i []

-- cells with commas between them
abbrev pub joined : List (List ℕ) → List ℕ
joined [] = []
joined (cell ∷ []) = cell
joined (cell ∷ cells) = cell ++ 44 ∷ [] ++ joined cells

-- a number that stands for no name has no byte
abbrev pub cell_text : Declared → Cell → List ℕ
cell_text s (Int n) = signed_decimal n
cell_text s (Truth true) = codes "true"
cell_text s (Truth false) = codes "false"
cell_text s (Enum e i) = name_at (unwrap_or (enum_names s e) []) i

abbrev pub kind_word : PaneKind → List ℕ
kind_word kind.Early = codes "early"
kind_word kind.OnTime = codes "on_time"
kind_word kind.Late = codes "late"
kind_word kind.Final = codes "final"

abbrev pub fault_word : RowFault → List ℕ
fault_word BadTag = codes "BadTag"
fault_word CellCount = codes "CellCount"
fault_word BadNumber = codes "BadNumber"
fault_word BadName = codes "BadName"

abbrev pub refusal_word : Refusal → List ℕ
refusal_word UnknownKey = codes "UnknownKey"
refusal_word FieldRange = codes "FieldRange"
refusal_word TimeRange = codes "TimeRange"
refusal_word TooFarAhead = codes "TooFarAhead"
refusal_word Late = codes "Late"
refusal_word RecordLimit = codes "RecordLimit"
refusal_word NotRising = codes "NotRising"
refusal_word UnknownSource = codes "UnknownSource"

abbrev pub row_cells : Declared → OutRow → List (List ℕ)
row_cells s (Pane kind key window columns) =
    codes "pane" ∷ kind_word kind ∷ name_at s.keys key ∷ signed_decimal window.start ∷ signed_decimal window.end ∷ map (cell_text s) columns
row_cells s (Retract key window columns) = codes "retract" ∷ name_at s.keys key ∷ signed_decimal window.start ∷ signed_decimal window.end ∷ map (cell_text s) columns
row_cells s (Istream mark columns) = codes "istream" ∷ signed_decimal mark ∷ map (cell_text s) columns
row_cells s (Dstream mark columns) = codes "dstream" ∷ signed_decimal mark ∷ map (cell_text s) columns
row_cells s (Rstream mark columns) = codes "rstream" ∷ signed_decimal mark ∷ map (cell_text s) columns

abbrev pub line_cells : Declared → Line → List (List ℕ)
line_cells s (Out row) = row_cells s row
line_cells s (Faulty row why) = codes "refused" ∷ decimal row ∷ fault_word why ∷ []
line_cells s (Refused row why) = codes "refused" ∷ decimal row ∷ refusal_word why ∷ []
line_cells s (End rows admitted late refused panes) = codes "end" ∷ decimal rows ∷ decimal admitted ∷ decimal late ∷ decimal refused ∷ decimal panes ∷ []

-- the bytes of a line
abbrev pub line_text : Declared → Line → List ℕ
line_text s line = joined (line_cells s line) ++ 10 ∷ []

-- the bytes of a list of lines
abbrev pub lines_text : Declared → List Line → List ℕ
lines_text s lines = flat_map (line_text s) lines

-- the bytes that are written for an input
abbrev pub text : Query → List Row → List ℕ
text q rows = lines_text q.declared (all_lines q rows)
