use Rattle.std.proofs.Common.{◌≡◌, map}
use Rattle.wsm_windows.specs.Places.{at}
use Rattle.wsm_semantics.specs.Summaries.{all_fired, fires}
use Rattle.wsm_machine.specs.Meaning.{plan_of, query_of}
use Rattle.wsm_panes.specs.Held.{IsKept, entries_of}
use Rattle.wsm_firing.specs.ByRecord.{AreInOrder, kind_at}
use Rattle.wsm_firing.specs.Streams.{Tells}
use Rattle.wsm_firing.proofs.LeftToFire.{ComesTo}
use Rattle.wsm_firing.proofs.operator.WindowOperator.fire_each.Given as goal

-- to fire at the windows that are left comes to firing at all
abbrev pub invariant-loop-window : goal.invariant-loop-window
invariant-loop-window l = record {
  order : AreInOrder (map (at l.key) l.window-iterator);
  panes : all_fired (plan_of l.verified) (query_of l.verified) (kind_at (query_of l.verified) l.mark (map (at l.key) l.window-iterator)) (entries_of l.self.state.held)
      ≡ all_fired (plan_of l.verified) (query_of l.verified) (kind_at (query_of l.verified) l.mark (map (at l.key) l.fn.windows)) (entries_of l.fn.self.state.held);
  keeps : IsKept l.fn.self.state.held l.self.state.held;
  tells : Tells l.fn.self.state.streams l.self.state.streams (entries_of l.fn.self.state.held) (entries_of l.self.state.held);
  room : l.self.state.rows.room ≡ l.fn.self.state.rows.room;
  comes : ComesTo l.verified l.fn.self.state.rows.room l.fn.self.state.rows.written l.tally l.self.state.rows.written
      (fires (query_of l.verified) (kind_at (query_of l.verified) l.mark (map (at l.key) l.window-iterator)) (entries_of l.self.state.held))
      (fires (query_of l.verified) (kind_at (query_of l.verified) l.mark (map (at l.key) l.fn.windows)) (entries_of l.fn.self.state.held));
}
