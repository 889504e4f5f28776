-- What an iterator over windows has left.
use Rattle.std.specs.Prelude.{ℕ, zero, suc, ◌/◌, cond, List, [], ◌∷◌, ℤ, pos, ◌+ℤ◌, ◌-ℤ◌, ◌≤ℤ◌, int_le, unsigned_abs}
use Rattle.wsm_windows.specs.declared.window.Window.{Window}
use Rattle.wsm_windows.specs.declared.assignment.Windows.TheInside.{Inside}
use Rattle.wsm_windows.specs.Windows.{window, greatest_span, greatest_time}

-- so many windows from a first start on, a period apart
abbrev pub windows_from : ℕ → ℤ → ℤ → ℤ → List Window
windows_from zero size period start = []
windows_from (suc n) size period start = window start (start +ℤ size) ∷ windows_from n size period (start +ℤ period)

-- how many of start, start + period, .. are at most the time
abbrev pub starts_left : ℤ → ℤ → ℤ → ℕ
starts_left period start time = cond (int_le start time) (suc (unsigned_abs (time -ℤ start) / unsigned_abs period)) 0

abbrev pub windows_left : Inside → List Window
windows_left a = windows_from (starts_left a.period a.start a.time) a.size a.period a.start

-- the sums of starts and ends stay in range
pub record IsInRange (a : Inside) : Type 0 where
  pub size_low : pos 1 ≤ℤ a.size
  pub size_high : a.size ≤ℤ greatest_span
  pub period_low : pos 1 ≤ℤ a.period
  pub period_high : a.period ≤ℤ greatest_span
  pub start_low : (pos 0 -ℤ greatest_span) ≤ℤ a.start
  pub start_high : a.start ≤ℤ (greatest_time +ℤ greatest_span)
  pub time_high : a.time ≤ℤ greatest_time
