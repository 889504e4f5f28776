-- What a front and its engines keep: the program that each of them runs, the front, the engines by the numbers of their parts, how
-- many events were fed, how many panes fired, and the rows of the last event, each key by its number.
use Rattle.std.specs.Prelude.{ℕ, List, Option}
use Rattle.wsm_admission.specs.Admission as admission
use Rattle.wsm_semantics.specs.declared.out_row.OutRow.{OutRow}
use Rattle.wsm_program.specs.Program.{Program}
use Rattle.wsm_engine.specs.State.{State as EngineState}

pub record State : Type 0 where
  pub program : Program
  pub front : admission.State
  pub engines : List (Option EngineState)
  pub fed : ℕ
  pub fired : ℕ
  pub rows : List OutRow
