-- An event of a log.
use Rattle.std.specs.Prelude.{ℕ}
use Rattle.wsm_record.specs.Event.{Event}
use Rattle.wsm_watermarks.specs.declared.held.Timed.{Timed}

-- an event, by the number of its line
pub record Numbered : Type 0 where
  pub number : ℕ
  pub event : Event

-- a record at a time, of the line of a number
abbrev pub timed : ℕ → ℕ → Event → Timed Numbered
timed time number e = record { time = time; row = record { number = number; event = e } }
