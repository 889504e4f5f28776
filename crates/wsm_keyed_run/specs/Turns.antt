-- What the turns of a run keep, and how it fits the rows so far.
use Rattle.std.specs.Prelude.{◌≡◌, ℕ, List, [], ◌∷◌, ◌++◌, Option, IsTrue, length}
use Rattle.std.specs.Io.KnownBytes.{Appends}
use Rattle.wsm_record.specs.declared.words.Form.TheVariants.{Panes}
use Rattle.wsm_admission.specs.Admission.{counter}
use Rattle.wsm_semantics.specs.Lines.{Row, events, fault_count, turn_lines}
use Rattle.wsm_semantics.specs.Text.{line_text}
use Rattle.wsm_semantics.specs.declared.ending.Totals.{Totals}
use Rattle.wsm_program.specs.Program.{Program, is_program}
use Rattle.wsm_part_programs.specs.Names.{of_names}
use Rattle.wsm_key_names.specs.Reading.{Reading}
use Rattle.wsm_part_engines.specs.Fits as parts
use Rattle.wsm.specs.Written.{Cells, line_of, rows_of}
use Rattle.wsm_keyed_run.specs.declared.turns.KeyedTurns.{KeyedTurns}
use Rattle.wsm_keyed_told.specs.KeyedLines.{keyed_lines}
use Rattle.wsm_keyed_run.specs.Keyed.{Keyed, last_line, names_of, query_behind, turns_by}

-- ---- behind rows

-- the engines of the program behind rows whose keys are by number, over these names, and how many of the rows were no events
pub record Counts (p : Program) (t : KeyedTurns) (before : List Row) : Type 0 where
  pub lawful : IsTrue (is_program p)
  pub panes : p.header.form ≡ Panes
  pub parts : parts.Fits p t.events.names t.parts (events before)
  pub faults : t.faults ≡ counter (fault_count before)

-- a reader of rows behind some that were read
pub record Reads (k : Keyed) (r : Reading) (cells : List Cells) : Type 0 where
  pub names : r.names ≡ names_of k cells
  pub most : r.most ≡ k.most
  pub block : r.block ≡ length k.program.header.schema.keys

-- the reader has as many keys in a part as the engines
abbrev pub HasBlocks : KeyedTurns → Type 0
HasBlocks t = t.events.block ≡ length t.parts.program.header.schema.keys

-- the turns of the program by the names, behind rows
pub record Fits (k : Keyed) (t : KeyedTurns) (cells : List Cells) : Type 0 where
  pub reads : Reads k t.events cells
  pub counts : Counts k.program t (rows_of (query_behind k cells) cells)

-- ---- one row more

-- the key of a row, if it is a record of one, has a name
abbrev pub HasName : List (List ℕ) → Row → Type 0
HasName names row = parts.AreNamed names (events (row ∷ []))

-- a row was read, and its turn isn't taken
pub record Ready (p : Program) (t : KeyedTurns) (before : List Row) (row : Row) : Type 0 where
  pub counts : Counts p t before
  pub named : HasName t.events.names row

-- its turn was taken: its lines stand behind those that were there, by the names so far and whichever come
pub record Adds (p : Program) (old new : KeyedTurns) (before : List Row) (row : Row) : Type 0 where
  pub counts : Counts p new (row ∷ before)
  pub events : new.events ≡ old.events
  pub lines : (more : List (List ℕ)) → let names = old.events.names ++ more in
      new.lines.items ≡ old.lines.items ++ keyed_lines p.header.schema names (turn_lines (of_names p names) before row)

-- ---- all rows

-- these bytes are the turns of rows, by the names that came and by all that come later
abbrev pub IsTextOf : Keyed → List Cells → List ℕ → Type 0
IsTextOf k cells bytes = (later : List Cells) → bytes ≡ turns_by k.program (names_of k (cells ++ later)) cells

-- one turn more, with the lines of the row
pub record Turned (k : Keyed) (new : KeyedTurns) (cells : List Cells) (row : Cells) : Type 0 where
  pub fits : Fits k new (cells ++ row ∷ [])
  pub lines : (bytes : List ℕ) → IsTextOf k cells bytes → IsTextOf k (cells ++ row ∷ []) (bytes ++ new.lines.items)

-- the turns of these rows were taken, and their text written
pub record Stands (k : Keyed) (cells : List Cells) (old now : Option (List ℕ)) (t : KeyedTurns) : Type 0 where
  pub fits : Fits k t cells
  pub bytes : List ℕ
  pub is : IsTextOf k cells bytes
  pub text : Appends old now bytes

-- the turns are at their end: their lines are the last line, with these numbers
pub record Ends (k : Keyed) (new : KeyedTurns) (cells : List Cells) (totals : Totals) : Type 0 where
  pub lines : new.lines.items ≡ line_text k.program.header.schema (line_of totals)
  pub numbers : line_of totals ≡ last_line k cells
