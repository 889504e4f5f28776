use Rattle.std.proofs.Common.{◌≡◌}
use Rattle.std.specs.Prelude.{IfSome}
use Rattle.wsm_panes.specs.Held.{IsKept, IsSpot, entries_of}
use Rattle.wsm_slots.specs.Walk.{place_found}
use Rattle.wsm_firing.specs.Streams.{Tells}
use Rattle.wsm_firing.proofs.WatermarkWalk.{HasWalked}
use Rattle.wsm_firing.proofs.operator.WindowOperator.fire_due.Given as goal

abbrev pub invariant-loop : goal.invariant-loop
invariant-loop l = record {
  keeps : IsKept l.fn.self.state.held l.self.state.held;
  tells : Tells l.fn.self.state.streams l.self.state.streams (entries_of l.fn.self.state.held) (entries_of l.self.state.held);
  room : l.self.state.rows.room ≡ l.fn.self.state.rows.room;
  spot : IfSome l.next (IsSpot l.self.state.held);
  walked : HasWalked l.verified l.fn.old l.fn.new (entries_of l.fn.self.state.held) l.fn.self.state.rows.written l.fn.self.state.rows.room l.counter (entries_of l.self.state.held) (place_found l.next) l.tally l.self.state.rows.written;
}
