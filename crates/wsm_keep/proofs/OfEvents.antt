-- Of events that are rows, those that are needed stay.
use Rattle.std.proofs.Common.{◌≡◌, ℕ, List, [], ◌∷◌, map, Ok, refl, sym, ap, ◌∙◌}
use Rattle.wsm_record.specs.Event.{Event}
use Rattle.wsm_semantics.specs.Query.{Query}
use Rattle.wsm_semantics.specs.Lines.{Row, events}
use Rattle.wsm_semantics.specs.Needed.{needed}
use Rattle.wsm_keep.specs.Staying.{events_in, staying}
use Rattle.wsm_keep.specs.Holds.{read, row_with, rows_with}
use Rattle.wsm_keep.proofs.Natural.{staying_through}
use Rattle.wsm_keep.proofs.StayingEvents.{staying_events}

-- the events of such rows are these
pub events_with : (text : Event → List ℕ) (past : List Event) → events_in read (rows_with text past) ≡ past
events_with text [] = refl
events_with text (e ∷ past) = ap (λ (es : List Event). e ∷ es) (events_with text past)

-- an event, read as a row
abbrev said : Event → Row
said e = Ok e

all_said : (past : List Event) → events (map said past) ≡ past
all_said [] = refl
all_said (e ∷ past) = ap (λ (es : List Event). e ∷ es) (all_said past)

stay_said : (q : Query) (past : List Event) → staying said q past ≡ needed q past
stay_said q past = sym (all_said (staying said q past)) ∙ staying_events said q past ∙ ap (needed q) (all_said past)

pub needed_stay : (q : Query) (text : Event → List ℕ) (past : List Event) → staying read q (rows_with text past) ≡ rows_with text (needed q past)
needed_stay q text past = staying_through (row_with text) read q past ∙ ap (rows_with text) (stay_said q past)
