-- What a reader of events has read, and the room that it keeps.
use Rattle.std.specs.Prelude.{ℕ, Bool, vec_capacity}
use Rattle.wsm_record.specs.Event.{Event, event_of}
use Rattle.wsm_csv.specs.declared.event_reader.EventReader.{EventReader}
use Rattle.wsm_csv.specs.InPlace.{room_in, spare_in}

-- the event that was read last
abbrev pub event_read : EventReader → Event
event_read r = event_of r.event

-- whether its values were found to fit
abbrev pub fits_read : EventReader → Bool
fits_read r = r.values_fit

-- for how many values there is room
abbrev pub room_of : EventReader → ℕ
room_of r = room_in r.event (vec_capacity r.spare)

-- for how many there is room beside that
abbrev pub spare_of : EventReader → ℕ
spare_of r = spare_in r.event (vec_capacity r.spare)
