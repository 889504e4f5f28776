-- How long a window is held, and how many of one key are held at once: this project's own rule.
use Rattle.std.specs.Prelude.{◌≡◌, ℕ, ◌+◌, Bool, ◌&&◌, List, [], ◌∷◌, filter, All, ℤ, ◌+ℤ◌, ◌*ℤ◌, ◌<ℤ◌, ◌≤ℤ◌, int_lt, int_le, unsigned_abs}
use Rattle.std.specs.Int.{div_ceil}
use Rattle.wsm_windows.specs.declared.window.Window.{Window}
use Rattle.wsm_windows.specs.declared.window.Shape.{Shape}
use Rattle.wsm_windows.specs.declared.window.Shape.TheVariants.{Fixed, Sliding, Session}
use Rattle.wsm_windows.specs.Windows.{IsRising, IsWindowOfShape, windows_of_shape}

-- its end and the lateness are past the mark
abbrev pub is_live : Window → ℤ → ℤ → Bool
is_live w lateness mark = int_lt mark (w.end +ℤ lateness)

-- of the windows of a time those that are live, by rising start
abbrev pub live_windows_of : Shape → ℤ → ℤ → ℤ → List Window
live_windows_of shape time lateness mark = filter (λ w. is_live w lateness mark) (windows_of_shape shape time)

-- the window is one of a time, and live
pub record IsLiveWindowOf (shape : Shape) (time lateness mark : ℤ) (w : Window) : Type 0 where
  pub of_time : IsWindowOfShape shape time w
  pub live : mark <ℤ (w.end +ℤ lateness)

-- the mark has come to its end, on the step from old to new
abbrev pub is_due : Window → ℤ → ℤ → Bool
is_due w old new = int_lt old w.end && int_le w.end new

-- the most windows of a key that are live at once
abbrev pub live_bound : Shape → ℤ → ℤ → ℕ
live_bound (Fixed size) skew lateness = div_ceil (unsigned_abs ((skew +ℤ lateness) +ℤ size)) (unsigned_abs size)
live_bound (Sliding size period) skew lateness = div_ceil (unsigned_abs ((skew +ℤ lateness) +ℤ size)) (unsigned_abs period)
live_bound (Session gap) skew lateness = 1 + div_ceil (unsigned_abs (skew +ℤ lateness)) (unsigned_abs gap)

-- [k period, k period + size), for some whole k
pub record IsOnGrid (size period : ℤ) (w : Window) : Type 0 where
  pub k : ℤ
  pub start : w.start ≡ k *ℤ period
  pub end : w.end ≡ w.start +ℤ size

-- each lasts a gap or more and starts no sooner than those before it end
abbrev pub AreSessions : ℤ → List Window → Type 0
AreSessions gap [] = Unit {0}
AreSessions gap (w ∷ ws) = ((w.start +ℤ gap) ≤ℤ w.end) × All (λ v. w.end ≤ℤ v.start) ws × AreSessions gap ws

-- windows of one key, by rising start
abbrev pub AreOfOneKey : Shape → List Window → Type 0
AreOfOneKey (Fixed size) ws = All (IsOnGrid size size) ws × IsRising ws
AreOfOneKey (Sliding size period) ws = All (IsOnGrid size period) ws × IsRising ws
AreOfOneKey (Session gap) ws = AreSessions gap ws

-- live, with a start that isn't more than the skew ahead of the mark
pub record IsHeld (skew lateness mark : ℤ) (w : Window) : Type 0 where
  pub live : mark <ℤ (w.end +ℤ lateness)
  pub near : w.start ≤ℤ (mark +ℤ skew)
