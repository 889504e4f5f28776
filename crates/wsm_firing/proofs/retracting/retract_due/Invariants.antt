use Rattle.std.proofs.Common.{◌≡◌}
use Rattle.std.specs.Prelude.{IfSome}
use Rattle.wsm_panes.specs.Held.{IsSpot, entries_of}
use Rattle.wsm_slots.specs.Walk.{place_found}
use Rattle.wsm_firing.proofs.RetractWalk.{HasComeTo}
use Rattle.wsm_firing.proofs.retracting.retract_due.Given as goal

abbrev pub invariant-loop : goal.invariant-loop
invariant-loop l = record {
  room : l.rows.room ≡ l.fn.rows.room;
  spot : IfSome l.next (IsSpot l.held);
  walked : HasComeTo l.verified l.fn.old l.fn.new (entries_of l.held) l.fn.rows.written l.counter (place_found l.next) l.rows.written;
}
