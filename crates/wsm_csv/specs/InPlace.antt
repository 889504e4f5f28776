-- An event that others are read in place of, beside a spare vector of values.
use Rattle.std.specs.Prelude.{ℕ, List, [], vec_capacity}
use Rattle.wsm_record.specs.declared.event.Value.{Value}
use Rattle.wsm_record.specs.declared.event.Event.{Event}
use Rattle.wsm_record.specs.declared.event.Event.TheVariants.{Record, Watermark}

abbrev pub values_in : Event → List Value
values_in (Record key time values) = values.items
values_in (Watermark source time) = []

-- for how many values there is room: in the record's vector, or else in the spare one
abbrev pub room_in : Event → ℕ → ℕ
room_in (Record key time values) spare = vec_capacity values
room_in (Watermark source time) spare = spare

-- for how many values there is room beside that: in the spare vector, where the record has its own
abbrev pub spare_in : Event → ℕ → ℕ
spare_in (Record key time values) spare = spare
spare_in (Watermark source time) spare = 0
