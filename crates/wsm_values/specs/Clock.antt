-- Clocks: at which instants a clock shows a local time.
use Rattle.std.specs.Prelude.{ℤ, pos, neg_ℤ, ◌+ℤ◌, ◌-ℤ◌, int_lt, if◌then◌else◌, Option, Some, None, option_and_then}
use Rattle.std.specs.Ordering.{int_eq}
use Rattle.jiff_core.specs.Timestamp.{nanos_of_seconds}
use Rattle.wsm_values.specs.declared.clock.Fold.{Fold}
use Rattle.wsm_values.specs.declared.clock.Fold.TheVariants.{Refused, First, Second}

-- how far a clock is ahead of UTC, in seconds, at each instant, in nanoseconds since 1970
abbrev pub Clock : Type 0
Clock = ℤ → ℤ

-- the nanoseconds of the offset that a clock has at an instant
abbrev pub offset_nanos : Clock → ℤ → Option ℤ
offset_nanos clock n =
    if int_lt n (neg_ℤ (pos 377705023201000000000)) then None
    else (if int_lt (pos 253402207200999999999) n then None else Some (nanos_of_seconds (clock n)))

-- the instant is right where the offset holds there: then the clock shows the local time at it
abbrev pub if_holds : ℤ → ℤ → ℤ → Option ℤ
if_holds instant offset there = if int_eq there offset then Some instant else None

abbrev pub by_offset : Clock → ℤ → ℤ → Option ℤ
by_offset clock local offset = option_and_then (if_holds (local -ℤ offset) offset) (offset_nanos clock (local -ℤ offset))

-- the instant of a local time by the offset that holds at another instant, where it holds there too
abbrev pub candidate : Clock → ℤ → ℤ → Option ℤ
candidate clock local n = option_and_then (by_offset clock local) (offset_nanos clock n)

-- of two instants at which the clock shows the same
abbrev pub of_two : Fold → ℤ → ℤ → Option ℤ
of_two Refused first second = if int_eq first second then Some first else None
of_two First first second = Some first
of_two Second first second = Some second

abbrev pub chosen : Fold → Option ℤ → Option ℤ → Option ℤ
chosen fold None second = second
chosen fold (Some first) None = Some first
chosen fold (Some first) (Some second) = of_two fold first second

-- the instant of a local time: by the offset of the day before and that of the day behind. In a gap there
-- is none. In a fold there are two, and the source says which it is.
abbrev pub instant_at : Clock → Fold → ℤ → Option ℤ
instant_at clock fold local = chosen fold (candidate clock local (local -ℤ pos 86400000000000)) (candidate clock local (local +ℤ pos 86400000000000))
