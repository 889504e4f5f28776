-- Times: what instant a text names, and which unit of the clock that is.
use Rattle.std.specs.Prelude.{ℕ, ◌^◌, ◌-◌, ℤ, pos, neg_ℤ, ◌*ℤ◌, List, int_lt, if◌then◌else◌, Option, Some, None, option_map, option_and_then}
use Rattle.std.specs.Int.{int_div_euclid}
use Rattle.wsm_values.specs.Decimal.{plain, decimal_of}
use Rattle.wsm_values.specs.Fraction.{seconds_of}
use Rattle.wsm_values.specs.Local.{pattern_instant}
use Rattle.wsm_values.specs.Zone.{offset_in}
use Rattle.wsm_values.specs.Rfc3339.{rfc3339_instant}
use Rattle.wsm_values.specs.declared.time.Unit.{Unit}
use Rattle.wsm_values.specs.declared.time.Unit.TheVariants.{Seconds, Milliseconds, Microseconds}
use Rattle.wsm_values.specs.declared.time.TimeForm.{TimeForm}
use Rattle.wsm_values.specs.declared.time.TimeForm.TheVariants.{Instant, Epoch, Fraction, Local}

-- the nanoseconds in a unit
abbrev pub nanos_in : Unit → ℕ
nanos_in Seconds = 1000000000
nanos_in Milliseconds = 1000000
nanos_in Microseconds = 1000

-- the number, where 64 bits hold it
abbrev pub in_word : ℤ → Option ℤ
in_word z = if int_lt z (neg_ℤ (pos (2 ^ 63))) then None else (if int_lt (pos (2 ^ 63 - 1)) z then None else Some z)

-- the whole units up to an instant, downward also before 1970
abbrev pub floor_to : Unit → ℤ → ℤ
floor_to unit nanos = int_div_euclid nanos (pos (nanos_in unit))

-- the nanoseconds of a whole number of units
abbrev pub counted : Unit → List ℕ → Option ℤ
counted unit text = option_map (λ n. n *ℤ pos (nanos_in unit)) (decimal_of (plain 0) text)

-- the nanoseconds since 1970 of a text
abbrev pub instant_of : TimeForm → List ℕ → Option ℤ
instant_of Instant text = rfc3339_instant text
instant_of (Epoch unit) text = counted unit text
instant_of Fraction text = seconds_of text
instant_of (Local local) text = pattern_instant (offset_in local.zone) local.fold local.pattern text

-- the time of a text, in a clock's unit
unfoldable pub time_of : TimeForm → Unit → List ℕ → Option ℤ
time_of form unit text = option_and_then (λ nanos. in_word (floor_to unit nanos)) (instant_of form text)
