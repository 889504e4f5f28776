-- What an event does, by what is told of it.
use Rattle.std.specs.Prelude.{Some, Bool, if◌then◌else◌}
use Rattle.wsm_record.specs.Event.{Event, Record, Watermark}
use Rattle.wsm_keep.specs.declared.what.What.{What}
use Rattle.wsm_keep.specs.declared.what.What.TheVariants.{Selected, Accepted, Idle}

-- a record that is selected
abbrev pub what_selected : Event → What
what_selected (Record (Some key) time values) = Selected key time
what_selected e = Idle

-- a watermark that is accepted; a record that is taken and not selected does nothing
abbrev pub what_accepted : Event → What
what_accepted (Watermark (Some source) time) = Accepted source
what_accepted e = Idle

-- by whether an event is a record that is selected, and whether it is taken
abbrev pub what_told : Bool → Bool → Event → What
what_told selected taken e = if selected then what_selected e else (if taken then what_accepted e else Idle)
