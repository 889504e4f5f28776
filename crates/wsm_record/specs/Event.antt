-- What a row says, as values alone.
use Rattle.std.specs.Prelude.{ℕ, List, ℤ, Option}
use Rattle.wsm_record.specs.declared.event.Value.{Value}
use Rattle.wsm_record.specs.declared.event.Event.{Event as Held}
use Rattle.wsm_record.specs.declared.event.Event.TheVariants as held

pub data Event : Type 0 where
  Record : (key : Option ℕ) → (time : ℤ) → (values : List Value) → Event
  Watermark : (source : Option ℕ) → (time : ℤ) → Event

-- the event that a value of the code stands for
abbrev pub event_of : Held → Event
event_of (held.Record key time values) = Record key time values.items
event_of (held.Watermark source time) = Watermark source time
