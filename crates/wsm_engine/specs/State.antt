-- What an engine keeps: the program that it runs, what is kept of the events, the rows of the last, and for
-- how many rows there is room.
use Rattle.std.specs.Prelude.{ℕ, List}
use Rattle.wsm_record.specs.declared.event.Value.{Value}
use Rattle.wsm_semantics.specs.declared.out_row.OutRow.{OutRow}
use Rattle.wsm_semantics.specs.Steps as steps
use Rattle.wsm_program.specs.Program.{Program}

pub record State : Type 0 where
  pub program : Program
  pub machine : steps.State (List Value)
  pub rows : List OutRow
  pub room : ℕ
