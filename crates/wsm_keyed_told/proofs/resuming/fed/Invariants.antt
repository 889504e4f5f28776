use Rattle.std.proofs.Common.{◌≡◌, ℕ, List, length, map, take}
use Rattle.wsm_record.specs.Event.{Event, event_of}
use Rattle.wsm_program.specs.Program.{Program}
use Rattle.wsm_part_engines.specs.Fits.{Fits}
use Rattle.wsm_log_text.specs.Needed.{fed_all}
use Rattle.wsm_keyed_told.proofs.resuming.fed.Given as goal

-- the events so far were taken
abbrev pub invariant-loop-event : goal.invariant-loop-event
invariant-loop-event l = record {
  program : l.parts.program ≡ l.fn.parts.program;
  fits : (p : Program) (names : List (List ℕ)) (past : List Event) → length names ≡ l.count → Fits p names l.fn.parts past → Fits p names l.parts (fed_all past (map event_of (take l.event-index l.events)));
}
