-- Local times: what a text shows by a pattern, and which instant that is.
use Rattle.std.specs.Prelude.{ℕ, ◌+◌, ◌*◌, ◌&&◌, ◌||◌, not, ℤ, pos, neg_ℤ, ◌+ℤ◌, ◌-ℤ◌, ◌*ℤ◌, List, Bool, nat_le, nat_lt, int_lt, if◌then◌else◌, Option, Some, None, is_some, option_and_then, Result, Ok, Err}
use Rattle.std.specs.Option.{unwrap_or}
use Rattle.jiff_core.specs.Calendar.{days_in_month, days_from_civil}
use Rattle.jiff_core.specs.Timestamp.{nanos_of_seconds}
use Rattle.jiff_core.specs.declared.error.Error.{Error}
use Rattle.jiff_strtime.specs.Reader.{parse_text}
use Rattle.jiff_strtime.specs.Text.{Parts}
use Rattle.wsm_values.specs.Clock.{Clock, instant_at}
use Rattle.wsm_values.specs.declared.clock.Fold.{Fold}

abbrev pub is_month : ℤ → ℕ → Bool
is_month y m = not (int_lt y (neg_ℤ (pos 9999)) || int_lt (pos 9999) y || nat_lt m 1 || nat_lt 12 m)

abbrev pub is_day : ℤ → ℕ → ℕ → Bool
is_day y m d = not (nat_lt d 1 || nat_lt (days_in_month y m) d)

abbrev pub is_time : ℕ → ℕ → ℕ → ℕ → Bool
is_time h m s f = not (nat_le 24 h || nat_le 60 m || nat_le 60 s || nat_le 1000000000 f)

-- the nanoseconds from 1970 on, as a clock counts them that shows this
abbrev pub civil_of : ℤ → ℕ → ℕ → ℕ → ℕ → ℕ → ℕ → Option ℤ
civil_of y mo d h mi s f =
    if is_month y mo && is_day y mo d && is_time h mi s f
    then Some (days_from_civil y mo d *ℤ pos 86400000000000 +ℤ pos ((h * 3600 + mi * 60 + s) * 1000000000 + f))
    else None

-- the instant of a local time, by the offset beside it or at the clock
abbrev pub at_offset : Clock → Fold → Option ℤ → ℤ → Option ℤ
at_offset clock fold (Some seconds) local = Some (local -ℤ nanos_of_seconds seconds)
at_offset clock fold None local = instant_at clock fold local

-- the local time that parts name: a year, month, day, hour and minute; what is finer is zero where it isn't there
abbrev pub local_of : Parts → Option ℤ
local_of p =
    option_and_then (λ y. option_and_then (λ mo. option_and_then (λ d. option_and_then (λ h. option_and_then
    (λ mi. civil_of y mo d h mi (unwrap_or p.second 0) (unwrap_or p.subsec 0))
    p.minute) p.hour) p.day) p.month) p.year

abbrev pub unless_given : Clock → Fold → Parts → Option ℤ → Option ℤ
unless_given clock fold p (Some instant) = Some instant
unless_given clock fold p None = option_and_then (at_offset clock fold p.offset) (local_of p)

-- the instant that parts name: their own where they hold one, else their date and time. A zone by its name
-- is not looked up, so a text that has one names none.
abbrev pub of_parts : Clock → Fold → Parts → Option ℤ
of_parts clock fold p = if is_some p.iana then None else unless_given clock fold p p.timestamp

abbrev pub of_parse : Clock → Fold → Result Parts Error → Option ℤ
of_parse clock fold (Ok p) = of_parts clock fold p
of_parse clock fold (Err e) = None

-- the instant of a text by a pattern, in nanoseconds since 1970
abbrev pub pattern_instant : Clock → Fold → List ℕ → List ℕ → Option ℤ
pattern_instant clock fold pattern text = of_parse clock fold (parse_text pattern text)
