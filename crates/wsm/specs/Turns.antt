-- What the turns of a run keep, and how it fits the rows so far.
use Rattle.std.specs.Prelude.{◌≡◌, ℕ, List, ◌∷◌, ◌++◌, Option}
use Rattle.std.specs.Io.KnownBytes.{Appends}
use Rattle.wsm_record.specs.Event.{Event}
use Rattle.wsm_admission.specs.Admission.{counter}
use Rattle.wsm_semantics.specs.Lines.{Row, events, end_line, fault_count, turn_lines}
use Rattle.wsm_semantics.specs.Text.{line_text, lines_text}
use Rattle.wsm_program.specs.Program.{Program}
use Rattle.wsm_machine.specs.Meaning.{query_of}
use Rattle.wsm_semantics.specs.declared.ending.Totals.{Totals}
use Rattle.wsm_engine.specs.State.{State}
use Rattle.wsm_engine.specs.Meaning as engine
use Rattle.wsm.specs.declared.turns.Turns.{Turns}
use Rattle.wsm.specs.Written.{Cells, line_of, rows_of, turns_text}

-- the engine of the program, after a history of events
pub record EngineFits (p : Program) (s : State) (past : List Event) : Type 0 where
  pub program : s.program ≡ p
  pub fits : engine.Fits s past

-- the turns of the program, after rows
pub record Fits (p : Program) (t : Turns) (before : List Row) : Type 0 where
  pub engine : EngineFits p t.engine (events before)
  pub faults : t.faults ≡ counter (fault_count before)

-- one turn more, with the lines of the row
pub record Turned (p : Program) (new : Turns) (before : List Row) (row : Row) : Type 0 where
  pub fits : Fits p new (row ∷ before)
  pub lines : new.lines.items ≡ lines_text p.header.schema (turn_lines (query_of p) before row)

-- one turn more, whose lines stand behind those that were there
pub record Adds (p : Program) (old new : Turns) (before : List Row) (row : Row) : Type 0 where
  pub fits : Fits p new (row ∷ before)
  pub lines : new.lines.items ≡ old.lines.items ++ lines_text p.header.schema (turn_lines (query_of p) before row)

-- the turns of these rows were taken, and their text written
pub record Stands (p : Program) (cells : List Cells) (old now : Option (List ℕ)) (t : Turns) : Type 0 where
  pub fits : Fits p t (rows_of (query_of p) cells)
  pub text : Appends old now (turns_text (query_of p) cells)

-- the turns are at their end: their lines are the last line, with these numbers
pub record Ends (p : Program) (new : Turns) (rows : List Row) (totals : Totals) : Type 0 where
  pub lines : new.lines.items ≡ line_text p.header.schema (line_of totals)
  pub numbers : line_of totals ≡ end_line (query_of p) rows
