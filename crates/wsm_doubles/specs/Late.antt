-- When a record is late, by the end of the last window of its time: that ends last.
use Rattle.std.specs.Prelude.{ℤ, ◌+ℤ◌}
use Rattle.wsm_windows.specs.declared.window.Shape.{Shape}
use Rattle.wsm_windows.specs.declared.window.Shape.TheVariants.{Fixed, Sliding, Session}
use Rattle.wsm_windows.specs.Windows.{last_start}

-- the end of the last window of a time
abbrev pub last_end : Shape → ℤ → ℤ
last_end (Fixed size) time = last_start size time +ℤ size
last_end (Sliding size period) time = last_start period time +ℤ size
last_end (Session gap) time = time +ℤ gap
