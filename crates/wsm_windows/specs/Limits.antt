-- The ranges of times, and of the numbers of windows, clocks and triggers: this project's own rule.
use Rattle.std.specs.Prelude.{Bool, ◌&&◌, ℤ, pos}
use Rattle.wsm_record.specs.Schema.{is_within}
use Rattle.wsm_record.specs.declared.limits.TheConstants.{LATEST_TIME, LONGEST_SPAN}
use Rattle.wsm_windows.specs.declared.window.Shape.{Shape}
use Rattle.wsm_windows.specs.declared.window.Shape.TheVariants.{Fixed, Sliding, Session}

-- a time that a record or a watermark may have
abbrev pub is_time : ℤ → Bool
is_time t = is_within (pos 0) LATEST_TIME t

-- a skew, a lateness, or the count of a trigger, which is 0 where there is none
abbrev pub is_span : ℤ → Bool
is_span n = is_within (pos 0) LONGEST_SPAN n

-- a size, a gap, a number of records, or the count of a trigger that there is
abbrev pub is_size : ℤ → Bool
is_size n = is_within (pos 1) LONGEST_SPAN n

abbrev pub is_shape : Shape → Bool
is_shape (Fixed size) = is_size size
is_shape (Sliding size period) = is_size size && is_within (pos 1) size period
is_shape (Session gap) = is_size gap
