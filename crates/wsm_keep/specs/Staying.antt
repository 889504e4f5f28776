-- Which rows stay where rows are cut: those of the events that what follows hangs on. Rows of any kind stand newest first,
-- and are read as events, or as none.
use Rattle.std.specs.Prelude.{ℕ, Bool, true, false, ◌&&◌, not, List, [], ◌∷◌, map, int_lt, Some, None, Ok, Err, if◌then◌else◌}
use Rattle.wsm_record.specs.declared.words.Form.{Form}
use Rattle.wsm_record.specs.declared.words.Form.TheVariants as form
use Rattle.wsm_record.specs.Event.{Event, Record, Watermark}
use Rattle.wsm_semantics.specs.Query.{Query, raises, is_taken}
use Rattle.wsm_semantics.specs.Lines.{Row, events}
use Rattle.wsm_semantics.specs.FromWatermark.{Times, dropped_times}
use Rattle.wsm_semantics.specs.Needed.{is_one_of}
use Rattle.wsm_keep.specs.declared.what.What.{What}
use Rattle.wsm_keep.specs.declared.what.What.TheVariants.{Selected, Accepted, Idle}

-- what a row does after a history
abbrev pub what_of : Query → List Event → Row → What
what_of q past (Err fault) = Idle
what_of q past (Ok (Record None time values)) = Idle
what_of q past (Ok (Record (Some key) time values)) = if is_taken q past (Record (Some key) time values) && q.selects key values then Selected key time else Idle
what_of q past (Ok (Watermark None time)) = Idle
what_of q past (Ok (Watermark (Some source) time)) = if is_taken q past (Watermark (Some source) time) then Accepted source else Idle

-- records that are selected stay, with times after that of their key, and of the watermarks that are accepted the last of
-- each source before each of these, and at the end; but there none of some sources
abbrev pub stays : Times → List ℕ → What → Bool
stays x told (Selected key time) = int_lt (x key) time
stays x told (Accepted source) = not (is_one_of told source)
stays x told Idle = false

-- of which sources none stays next
abbrev pub told_after : List ℕ → What → List ℕ
told_after told (Selected key time) = []
told_after told (Accepted source) = source ∷ told
told_after told Idle = told

-- those that stay, by what each does
abbrev pub thinned : {A : Type 0} → (A → What) → Times → List ℕ → List A → List A
thinned does x told [] = []
thinned does x told (a ∷ before) = if stays x told (does a) then a ∷ thinned does x (told_after told (does a)) before else thinned does x told before

-- the events of rows
abbrev pub events_in : {A : Type 0} → (A → Row) → List A → List Event
events_in read rows = events (map read rows)

-- each row with what it does
abbrev pub with_what : {A : Type 0} → (A → Row) → Query → List A → List (What × A)
with_what read q [] = []
with_what read q (a ∷ before) = (what_of q (events_in read before) (read a), a) ∷ with_what read q before

-- what a row with it does, and the row
abbrev pub done_by : {A : Type 0} → What × A → What
done_by d = d.0

abbrev pub row_of : {A : Type 0} → What × A → A
row_of d = d.1

-- the rows of those that stand in a window that is live, and of watermarks
abbrev pub staying_for_panes : {A : Type 0} → (A → Row) → Query → List A → List A
staying_for_panes read q rows = map row_of (thinned done_by (dropped_times q (events_in read rows)) [] (with_what read q rows))

abbrev pub is_event : Row → Bool
is_event (Ok e) = true
is_event (Err fault) = false

abbrev pub raises_by : Query → List Event → Row → Bool
raises_by q past (Ok e) = raises q past e
raises_by q past (Err fault) = false

-- what the last rise of the watermark needs, and all events from it on
abbrev pub staying_for_streams : {A : Type 0} → (A → Row) → Query → List A → List A
staying_for_streams read q [] = []
staying_for_streams read q (a ∷ before) =
    if is_event (read a)
    then a ∷ (if raises_by q (events_in read before) (read a) then staying_for_panes read q before else staying_for_streams read q before)
    else staying_for_streams read q before

abbrev pub staying_for : {A : Type 0} → Form → (A → Row) → Query → List A → List A
staying_for form.Panes read q rows = staying_for_panes read q rows
staying_for _ read q rows = staying_for_streams read q rows

-- the rows that stay
abbrev pub staying : {A : Type 0} → (A → Row) → Query → List A → List A
staying read q rows = staying_for q.form read q rows
