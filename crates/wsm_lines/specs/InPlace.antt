-- An event that others are read in place of.
use Rattle.std.specs.Prelude.{List, []}
use Rattle.wsm_record.specs.declared.event.Value.{Value}
use Rattle.wsm_record.specs.declared.event.Event.{Event}
use Rattle.wsm_record.specs.declared.event.Event.TheVariants.{Record, Watermark}

abbrev pub values_held : Event → List Value
values_held (Record key time values) = values.items
values_held (Watermark source time) = []
