-- What a cutter has of a program's rows so far.
use Rattle.std.specs.Prelude.{List, IsTrue}
use Rattle.wsm_windows.specs.Windows.{IsShape, IsSpan}
use Rattle.wsm_program.specs.Program.{Program, is_program}
use Rattle.wsm_machine.specs.Meaning.{query_of}
use Rattle.wsm_keep.specs.Holds.{Written}
use Rattle.wsm_keep.specs.Keeper as keeper
use Rattle.wsm_cut.specs.declared.cutter.Cutter.{Cutter}

-- calls may be made
pub record IsReady (c : Cutter) : Type 0 where
  pub shape : IsShape c.keeper.shape
  pub lateness : IsSpan c.keeper.lateness

pub record Fits (p : Program) (c : Cutter) (rows : List Written) : Type 0 where
  pub lawful : IsTrue (is_program p)
  pub keeper : keeper.Fits (query_of p) c.keeper rows
