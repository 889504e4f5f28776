use Rattle.std.proofs.Common.{◌≡◌, List, map, take}
use Rattle.wsm_record.specs.Event.{Event, event_of}
use Rattle.wsm_engine.specs.Meaning.{Fits}
use Rattle.wsm_log_text.specs.Needed.{fed_all}
use Rattle.wsm_intake.proofs.resuming.feed_all.Given as goal

-- the events so far were fed
abbrev pub invariant-loop-event : goal.invariant-loop-event
invariant-loop-event l = record {
  program : l.engine.program ≡ l.fn.engine.program;
  fits : (past : List Event) → Fits l.fn.engine past → Fits l.engine (fed_all past (map event_of (take l.event-index l.events)));
}
