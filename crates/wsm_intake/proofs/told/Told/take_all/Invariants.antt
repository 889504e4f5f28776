use Rattle.std.proofs.Common.{List, map, take}
use Rattle.wsm_record.specs.Event.{Event, event_of}
use Rattle.wsm_program.specs.Program.{Program}
use Rattle.wsm_log_text.specs.Needed.{fed_all}
use Rattle.wsm_intake.specs.Tells.{Serves}
use Rattle.wsm_intake.proofs.told.Told.take_all.Given as goal

-- the turns of the events so far were taken
abbrev pub invariant-loop-event : goal.invariant-loop-event
invariant-loop-event l = (p : Program) (past : List Event) → Serves p l.fn.self past → Serves p l.self (fed_all past (map event_of (take l.event-index l.events)))
