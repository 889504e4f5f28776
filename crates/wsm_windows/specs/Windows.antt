-- Assignment of windows to a time (Akidau et al. 2015).
use Rattle.std.specs.Prelude.{◌≡◌, ℕ, zero, suc, ◌+◌, ◌-◌, ◌/◌, Bool, ◌&&◌, List, [], ◌∷◌, ◌++◌, All, ℤ, pos, ◌+ℤ◌, ◌-ℤ◌, ◌*ℤ◌, ◌<ℤ◌, ◌≤ℤ◌, int_lt, int_le, unsigned_abs}
use Rattle.std.specs.Int.{int_rem_euclid}
use Rattle.std.specs.List.{filter}
use Rattle.wsm_record.specs.declared.limits.TheConstants.{LATEST_TIME, LONGEST_SPAN}
use Rattle.wsm_windows.specs.declared.window.Window.{Window}
use Rattle.wsm_windows.specs.declared.window.Shape.{Shape}
use Rattle.wsm_windows.specs.declared.window.Shape.TheVariants.{Fixed, Sliding, Session}

abbrev pub window : ℤ → ℤ → Window
window s e = record { start = s; end = e }

-- t is inside
abbrev pub has_inside : ℤ → Window → Bool
has_inside t w = int_le w.start t && int_lt t w.end

-- [k period, k period + size), for some whole k, has t inside
pub record IsWindowOf (size period t : ℤ) (w : Window) : Type 0 where
  pub k : ℤ
  pub start : w.start ≡ k *ℤ period
  pub end : w.end ≡ w.start +ℤ size
  pub from : w.start ≤ℤ t
  pub until : t <ℤ w.end

-- the greatest multiple of the period that is at most t
abbrev pub last_start : ℤ → ℤ → ℤ
last_start period t = t -ℤ int_rem_euclid t period

-- n windows, the last of which starts at s, by rising start
abbrev pub windows_up_to : ℕ → ℤ → ℤ → ℤ → List Window
windows_up_to zero size period s = []
windows_up_to (suc n) size period s = windows_up_to n size period (s -ℤ period) ++ window s (s +ℤ size) ∷ []

-- by rising start: no window that starts a size or more before t has t inside
abbrev pub windows_of : ℤ → ℤ → ℤ → List Window
windows_of size period t =
    filter (has_inside t) (windows_up_to ((unsigned_abs size + unsigned_abs period - 1) / unsigned_abs period) size period (last_start period t))

-- the least multiple of the period whose window ends after t
abbrev pub first_start : ℤ → ℤ → ℤ → ℤ
first_start size period t = last_start period (t -ℤ size) +ℤ period

abbrev pub size_of : Shape → ℤ
size_of (Fixed size) = size
size_of (Sliding size period) = size
size_of (Session gap) = gap

-- fixed windows are sliding ones whose period is their size
abbrev pub period_of : Shape → ℤ
period_of (Fixed size) = size
period_of (Sliding size period) = period
period_of (Session gap) = gap

-- a record by itself is a session of one gap
abbrev pub windows_of_shape : Shape → ℤ → List Window
windows_of_shape (Fixed size) t = windows_of size size t
windows_of_shape (Sliding size period) t = windows_of size period t
windows_of_shape (Session gap) t = window t (t +ℤ gap) ∷ []

abbrev pub IsWindowOfShape : Shape → ℤ → Window → Type 0
IsWindowOfShape (Fixed size) t w = IsWindowOf size size t w
IsWindowOfShape (Sliding size period) t w = IsWindowOf size period t w
IsWindowOfShape (Session gap) t w = w ≡ window t (t +ℤ gap)

-- each starts after those before it
abbrev pub IsRising : List Window → Type 0
IsRising [] = Unit {0}
IsRising (w ∷ ws) = All (λ v. w.start <ℤ v.start) ws × IsRising ws

-- the greatest size, period, gap, skew and lateness
abbrev pub greatest_span : ℤ
greatest_span = LONGEST_SPAN

abbrev pub greatest_time : ℤ
greatest_time = LATEST_TIME

pub record IsShape (shape : Shape) : Type 0 where
  pub period_low : pos 1 ≤ℤ period_of shape
  pub period_high : period_of shape ≤ℤ size_of shape
  pub size_high : size_of shape ≤ℤ greatest_span

-- a time or a mark
pub record IsTime (t : ℤ) : Type 0 where
  pub low : pos 0 ≤ℤ t
  pub high : t ≤ℤ greatest_time

-- a skew or a lateness
pub record IsSpan (n : ℤ) : Type 0 where
  pub low : pos 0 ≤ℤ n
  pub high : n ≤ℤ greatest_span

-- a window that a time can stand in
pub record IsPlaced (w : Window) : Type 0 where
  pub apart : w.start <ℤ w.end
  pub low : (pos 0 -ℤ greatest_span) ≤ℤ w.start
  pub high : w.end ≤ℤ (greatest_time +ℤ greatest_span)
