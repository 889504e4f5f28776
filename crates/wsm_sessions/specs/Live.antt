-- The sessions that are kept of one key, and the times that they are of. No value stores its past:
-- that it fits some times is a relation.
use Rattle.std.specs.Prelude.{◌≡◌, ℕ, ◌<◌, Bool, ◌&&◌, List, Some, slice_get, ℤ, ◌+ℤ◌, ◌≤ℤ◌, filter}
use Rattle.std.specs.List.{list_any}
use Rattle.wsm_windows.specs.declared.window.Window.{Window}
use Rattle.wsm_windows.specs.Windows.{has_inside}
use Rattle.wsm_semantics.specs.Sessions.{sessions, ends_after}

-- sessions by rising start, and for how many there is room
pub record Live : Type 0 where
  pub gap : ℤ
  pub room : ℕ
  pub windows : List Window

-- they are the sessions of these times
abbrev pub Fits : Live → List ℤ → Type 0
Fits s times = s.windows ≡ sessions s.gap times

-- the time is in a window that ends after a limit
abbrev pub lives_in : ℤ → List Window → ℤ → Bool
lives_in limit ws t = list_any (λ w. ends_after limit w && has_inside t w) ws

-- the times that are left where the sessions that end by a limit are dropped
abbrev pub times_left : ℤ → ℤ → List ℤ → List ℤ
times_left gap limit times = filter (lives_in limit (sessions gap times)) times

-- there are times that they are the sessions of
pub record IsOfTimes (gap : ℤ) (ws : List Window) : Type 0 where
  pub times : List ℤ
  pub are : ws ≡ sessions gap times

-- the window at a place lasts a gap or more, and each behind it starts no sooner than it ends: so windows rise by their
-- starts, no two share a time, and no two are the same
pub record IsApart (s : Live) (i : ℕ) (w : Window) : Type 0 where
  pub lasts : (w.start +ℤ s.gap) ≤ℤ w.end
  pub behind : (j : ℕ) (v : Window) → i < j → slice_get s.windows j ≡ Some v → w.end ≤ℤ v.start
