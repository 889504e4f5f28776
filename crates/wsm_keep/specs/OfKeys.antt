-- Sessions key by key: of the times of each.
use Rattle.std.specs.Prelude.{◌≡◌, ℕ, List, [], Option, Some, None, slice_get, ℤ}
use Rattle.wsm_sessions.specs.Live.{Live, Fits}
use Rattle.wsm_keep.specs.Holds.{Queued, times_in}

-- those of these times; none stand for no times
abbrev pub IsOfTimes : ℤ → Option Live → List ℤ → Type 0
IsOfTimes gap None times = times ≡ []
IsOfTimes gap (Some s) times = (s.gap ≡ gap) × Fits s times

abbrev pub AreOfKeys : ℤ → List Live → List Queued → Type 0
AreOfKeys gap keys queue = (key : ℕ) → IsOfTimes gap (slice_get keys key) (times_in key queue)

abbrev pub AreNone : ℤ → List Live → Type 0
AreNone gap keys = AreOfKeys gap keys []
