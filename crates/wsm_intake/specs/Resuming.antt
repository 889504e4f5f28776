-- An engine that goes on from events which stand for all that came.
use Rattle.std.specs.Prelude.{◌≤◌, ℕ, ◌+◌, pos, List, [], unsigned_abs}
use Rattle.wsm_record.specs.Event.{Event}
use Rattle.wsm_program.specs.Program.{Program}
use Rattle.wsm_machine.specs.Meaning.{query_of}
use Rattle.wsm_head.specs.StandsFor.{program_with, taken}
use Rattle.wsm_log_text.specs.Needed.{fed_all}
use Rattle.wsm_intake.specs.declared.told.Told.{Told}
use Rattle.wsm_intake.specs.Tells.{Serves}

-- a program was fed these events, the oldest first, with so many RECORDS that as many are left behind them as are wanted
pub record GoesOnFrom (p : Program) (left : ℕ) (events : List Event) (told : Told) : Type 0 where
  pub fewer : left + taken (query_of p) (fed_all [] events) ≤ unsigned_abs p.header.clock.records
  pub serves : Serves (program_with (pos (left + taken (query_of p) (fed_all [] events))) p) told (fed_all [] events)
