use Rattle.std.proofs.Common.{◌≡◌, ◌<◌, ◌≤◌, ℕ, length, Some}
use Rattle.std.specs.Prelude.{slice_get}
use Rattle.wsm_sessions.specs.Live.{Live}
use Rattle.wsm_panes.specs.OfKeys.{IsLeft}
use Rattle.wsm_panes.proofs.held.drop_sessions.Given as goal

-- of the keys so far, and of no other yet
abbrev pub invariant-loop-i : goal.invariant-loop-i
invariant-loop-i l = record {
  count : length l.sessions.items.items ≡ length l.fn.sessions.items.items;
  each : (k : ℕ) (new : Live) → k < l.i → slice_get l.sessions.items.items k ≡ Some new → (old : Live) × (slice_get l.fn.sessions.items.items k ≡ Some old) × IsLeft l.limit old new;
  rest : (k : ℕ) → l.i ≤ k → slice_get l.sessions.items.items k ≡ slice_get l.fn.sessions.items.items k;
}
