use Rattle.std.proofs.Common.{◌≡◌, ◌≤◌, ℕ, [], Some, length}
use Rattle.std.specs.Prelude.{slice_get, vec_capacity}
use Rattle.wsm_sessions.specs.Live.{Live}
use Rattle.wsm_panes.specs.OfKeys.{IsOfKey}
use Rattle.wsm_panes.proofs.held.no_sessions.Given as goal

abbrev pub invariant-loop : goal.invariant-loop
invariant-loop l = record {
  len : length l.sessions.items ≡ l.counter;
  room : l.keys ≤ vec_capacity l.sessions;
  each : (k : ℕ) (s : Live) → slice_get l.sessions.items k ≡ Some s → IsOfKey l.gap l.live k [] s;
}
