-- What is written for the rows that are read: this project's own forms. A history of rows has the
-- newest first, a list of lines the oldest.
use Rattle.std.specs.Prelude.{ℕ, ◌+◌, List, [], ◌∷◌, ◌++◌, length, map, Option, Some, None, Result, Ok, Err}
use Rattle.wsm_record.specs.declared.event.RowFault.{RowFault}
use Rattle.wsm_record.specs.Event.{Event}
use Rattle.wsm_admission.specs.declared.verdict.Refusal.{Refusal}
use Rattle.wsm_admission.specs.declared.verdict.Refusal.TheVariants as refusal
use Rattle.wsm_admission.specs.Clock.{admitted_count, late_count, refused_count}
use Rattle.wsm_admission.specs.Admission.{counter}
use Rattle.wsm_semantics.specs.declared.out_row.OutRow.{OutRow}
use Rattle.wsm_semantics.specs.Query.{Query, verdict_on}
use Rattle.wsm_semantics.specs.Firings.{firings_so_far}
use Rattle.wsm_semantics.specs.Relation.{turn_rows}

-- a row that is read: an event, or none
abbrev pub Row : Type 0
Row = Result Event RowFault

-- a line that is written
pub data Line : Type 0 where
  Out : (row : OutRow) → Line
  Faulty : (row : ℕ) → (why : RowFault) → Line
  Refused : (row : ℕ) → (why : Refusal) → Line
  End : (rows admitted late refused panes : ℕ) → Line

-- the events of the rows
abbrev pub events : List Row → List Event
events [] = []
events (Ok e ∷ rows) = e ∷ events rows
events (Err fault ∷ rows) = events rows

-- the line of a refusal: late records have none
abbrev pub refusal_lines : ℕ → Option Refusal → List Line
refusal_lines row None = []
refusal_lines row (Some refusal.Late) = []
refusal_lines row (Some why) = Refused row why ∷ []

-- the lines of the turn of a row after those before it
abbrev pub turn_lines : Query → List Row → Row → List Line
turn_lines q before (Err fault) = Faulty (counter (length before + 1)) fault ∷ []
turn_lines q before (Ok e) = let past = events before in
    refusal_lines (counter (length before + 1)) (verdict_on q past e) ++ map Out (turn_rows q past e)

-- the lines of all turns
abbrev pub lines_so_far : Query → List Row → List Line
lines_so_far q [] = []
lines_so_far q (row ∷ before) = lines_so_far q before ++ turn_lines q before row

abbrev pub fault_count : List Row → ℕ
fault_count [] = 0
fault_count (Ok e ∷ rows) = fault_count rows
fault_count (Err fault ∷ rows) = fault_count rows + 1

-- the last line: how many rows were read, records admitted, records late, rows refused and panes fired
abbrev pub end_line : Query → List Row → Line
end_line q rows = let past = events rows in
    End (counter (length rows)) (counter (admitted_count q.clock q.shape q.declared past)) (counter (late_count q.clock q.shape q.declared past))
    (counter (fault_count rows + refused_count q.clock q.shape q.declared past)) (counter (length (firings_so_far q past)))

-- the lines of an input
abbrev pub all_lines : Query → List Row → List Line
all_lines q rows = lines_so_far q rows ++ end_line q rows ∷ []
