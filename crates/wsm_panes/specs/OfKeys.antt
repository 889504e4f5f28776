-- The sessions that are kept of each key beside the panes.
use Rattle.std.specs.Prelude.{◌≡◌, ℕ, List, length, filter, ℤ, Some, slice_get}
use Rattle.wsm_record.specs.declared.event.Value.{Value}
use Rattle.wsm_windows.specs.declared.place.Place.{Place}
use Rattle.wsm_semantics.specs.Sessions.{ends_after}
use Rattle.wsm_semantics.specs.Summaries.{Pane}
use Rattle.wsm_sessions.specs.Live.{Live, Fits, times_left}
use Rattle.wsm_slots.specs.Panes.{windows_of_key}

-- the windows of a key's panes are its sessions
pub record IsOfKey (gap : ℤ) (live k : ℕ) (es : List (Place × Pane (List Value))) (s : Live) : Type 0 where
  pub same_gap : s.gap ≡ gap
  pub room : s.room ≡ live
  pub windows : windows_of_key k es ≡ s.windows
  pub times : (ts : List ℤ) × Fits s ts

-- there are sessions of each key
pub record AreOfKeys (gap : ℤ) (keys live : ℕ) (es : List (Place × Pane (List Value))) (ss : List Live) : Type 0 where
  pub count : length ss ≡ keys
  pub each : (k : ℕ) (s : Live) → slice_get ss k ≡ Some s → IsOfKey gap live k es s

-- the sessions that end after a limit are left
pub record IsLeft (limit : ℤ) (old new : Live) : Type 0 where
  pub windows : new ≡ record old { windows = filter (ends_after limit) old.windows }
  pub fits : (times : List ℤ) → Fits old times → Fits new (times_left old.gap limit times)

-- of each key
pub record AreDropped (limit : ℤ) (olds news : List Live) : Type 0 where
  pub count : length news ≡ length olds
  pub each : (k : ℕ) (new : Live) → slice_get news k ≡ Some new → (old : Live) × (slice_get olds k ≡ Some old) × IsLeft limit old new

-- panes and sessions that went together go together, after something was done to both
abbrev pub StayOfKeys : List (Place × Pane (List Value)) → List Live → List (Place × Pane (List Value)) → List Live → Type 0
StayOfKeys es ss fs ts = (gap : ℤ) (keys live : ℕ) → AreOfKeys gap keys live es ss → AreOfKeys gap keys live fs ts
