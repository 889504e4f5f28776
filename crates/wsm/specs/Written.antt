-- What a run writes for the rows that it reads, and how it ends.
use Rattle.std.specs.Prelude.{◌≡◌, ◌⊎◌, ℕ, List, Option, map, reverse}
use Rattle.std.specs.Io.KnownBytes.{Appends}
use Rattle.wsm_semantics.specs.Lines.{Row, Line, End, lines_so_far, end_line}
use Rattle.wsm_semantics.specs.Text.{lines_text, text}
use Rattle.wsm_semantics.specs.declared.ending.Totals.{Totals}
use Rattle.wsm_csv.specs.Cells.{event_of_cells}
use Rattle.wsm_csv.specs.Device.{TakesPart}
use Rattle.wsm_csv.specs.Records.{AreAll, AreFirst}
use Rattle.wsm_inputs.specs.declared.end.End.{End as Ending}
use Rattle.wsm_inputs.specs.declared.end.End.TheVariants as ends
use Rattle.wsm_semantics.specs.Query.{Query as Meant}
use Rattle.wsm_query.specs.Tree.{Query}
use Rattle.wsm_compiler.specs.Means.{meant}
use Rattle.wsm_inputs.specs.declared.input.Input.{Input}
use Rattle.wsm_inputs.specs.declared.input.Input.TheVariants as input
use Rattle.wsm_inputs.specs.TextOf.{IsTextOf}

-- the cells of a row
abbrev pub Cells : Type 0
Cells = List (List ℕ)

-- the rows that were read, the newest first
abbrev pub rows_of : Meant → List Cells → List Row
rows_of q cells = reverse (map (event_of_cells q.declared) cells)

-- the bytes of the turns of these rows
unfoldable pub turns_text : Meant → List Cells → List ℕ
turns_text q cells = lines_text q.declared (lines_so_far q (rows_of q cells))

-- the bytes that are written for an input of these rows
unfoldable pub input_text : Meant → List Cells → List ℕ
input_text q cells = text q (rows_of q cells)

-- the last line, with these totals
abbrev pub line_of : Totals → Line
line_of t = End t.rows t.admitted t.late t.refused t.panes

-- a run that ends well: it read all rows, and wrote their text
pub record Completes (known : Option (List ℕ)) (q : Meant) (cells : List Cells) (old new : Option (List ℕ)) (totals : Totals) : Type 0 where
  pub all : AreAll known cells
  pub text : Appends old new (input_text q cells)
  pub numbers : line_of totals ≡ end_line q (rows_of q cells)

-- a run that ends between two turns: it wrote the turns of the first rows, each whole
pub record BreaksOff (known : Option (List ℕ)) (q : Meant) (cells : List Cells) (old new : Option (List ℕ)) : Type 0 where
  pub first : AreFirst known cells
  pub text : Appends old new (turns_text q cells)

-- a run that ends within a turn: it wrote a beginning of the turns of the rows that it read
pub record BreaksWithin (known : Option (List ℕ)) (q : Meant) (cells : List Cells) (old new : Option (List ℕ)) : Type 0 where
  pub first : AreFirst known cells
  pub part : TakesPart old new (turns_text q cells)

-- a run that ends in its last line: it read all rows, and wrote a beginning of their text
pub record BreaksLast (known : Option (List ℕ)) (q : Meant) (cells : List Cells) (old new : Option (List ℕ)) : Type 0 where
  pub all : AreAll known cells
  pub part : TakesPart old new (input_text q cells)

-- how a run that was begun ends early: want of memory and of rows comes between turns, a failed device anywhere
abbrev pub EndsEarly : Option (List ℕ) → Meant → List Cells → Option (List ℕ) → Option (List ℕ) → Ending → Type 0
EndsEarly known q cells old new (ends.Refused why) = ⊥
EndsEarly known q cells old new (ends.Rejected why) = ⊥
EndsEarly known q cells old new ends.Memory = BreaksOff known q cells old new
EndsEarly known q cells old new ends.ReadFailed = BreaksOff known q cells old new
EndsEarly known q cells old new ends.WriteFailed = BreaksWithin known q cells old new ⊎ BreaksLast known q cells old new

-- all rows were read, and what the query means for them was written
abbrev pub RowsWritten : Option (List ℕ) → Option (List ℕ) → Option (List ℕ) → Meant → Totals → Type 0
RowsWritten known old new q totals = (cells : List Cells) × Completes known q cells old new totals

-- a beginning of that was written
abbrev pub RowsBroken : Option (List ℕ) → Option (List ℕ) → Option (List ℕ) → Meant → Ending → Type 0
RowsBroken known old new q end = (cells : List Cells) × EndsEarly known q cells old new end

-- the text says a query, all rows were read, and what the query means for them was written
abbrev pub TextWritten : List ℕ → Option (List ℕ) → Option (List ℕ) → Option (List ℕ) → Totals → Type 0
TextWritten text known old new totals = (q : Query) × IsTextOf text q × RowsWritten known old new (meant q) totals

-- the same of an input that is a text; of a program nothing is said here
abbrev pub InputWritten : Input → Option (List ℕ) → Option (List ℕ) → Option (List ℕ) → Totals → Type 0
InputWritten (input.Text text) known old new totals = TextWritten text.now known old new totals
InputWritten (input.Program bytes) known old new totals = Unit {0}
