-- What a keeper has of the rows so far.
use Rattle.std.specs.Prelude.{◌≡◌, ℕ, List, [], ◌∷◌, ◌++◌, length, map, filter, Bool, true, false, ℤ, Option, Some, None, Ok, if◌then◌else◌}
use Rattle.wsm_record.specs.declared.words.Form.{Form}
use Rattle.wsm_record.specs.declared.words.Form.TheVariants.{Panes}
use Rattle.wsm_record.specs.Event.{Event}
use Rattle.wsm_windows.specs.Windows.{IsShape}
use Rattle.wsm_admission.specs.Clock.{admitted_count}
use Rattle.wsm_semantics.specs.Query.{Query, SessionsByEvent, mark, raises}
use Rattle.wsm_semantics.specs.Needed.{needed, needed_by_panes}
use Rattle.wsm_keep.specs.declared.what.What.{What}
use Rattle.wsm_keep.specs.declared.what.What.TheVariants.{Selected, Accepted, Idle}
use Rattle.wsm_keep.specs.declared.keeper.Keeper.{Keeper}
use Rattle.wsm_keep.specs.declared.keeper.Judged.{Judged}
use Rattle.wsm_keep.specs.Staying.{what_of, events_in, row_of, is_event, staying, staying_for_panes}
use Rattle.wsm_keep.specs.Holds.{Written, Queued, read, text_of, selected_in, Holds}
use Rattle.wsm_keep.specs.Items.{joined}

-- the watermark before an event that raises it
abbrev pub rise_of : Query → List Event → Event → Option ℤ
rise_of q past e = if raises q past e then Some (mark q past) else None

abbrev pub says_event : Written → Bool
says_event w = is_event w.0

-- the events among rows behind others, queued
abbrev pub queued_behind : Query → List Written → List Written → List Queued
queued_behind q [] older = []
queued_behind q (w ∷ newer) older =
    if says_event w then (what_of q (events_in read (newer ++ older)) w.0, text_of w) ∷ queued_behind q newer older else queued_behind q newer older

-- what was queued before the rows since is of those before them; and all events since stay
pub record Queues (q : Query) (k : Keeper) (rows : List Written) : Type 0 where
  pub newer : List Written
  pub older : List Written
  pub split : rows ≡ newer ++ older
  pub since : k.since ≡ queued_behind q newer older
  pub holds : Holds q older k.queue
  pub before : k.before ≡ mark q (events_in read older)
  pub stays : staying read q rows ≡ filter says_event newer ++ staying_for_panes read q older
  pub alone : q.form ≡ Panes → k.since ≡ []

-- it goes by the query's windows, lateness and form
pub record IsOf (q : Query) (k : Keeper) : Type 0 where
  pub shape : k.shape ≡ q.shape
  pub lateness : k.lateness ≡ q.clock.lateness
  pub form : k.form ≡ q.form

pub record Fits (q : Query) (k : Keeper) (rows : List Written) : Type 0 where
  pub of : IsOf q k
  pub queues : Queues q k rows

pub record HasSettings (old new : Keeper) : Type 0 where
  pub shape : new.shape ≡ old.shape
  pub lateness : new.lateness ≡ old.lateness
  pub form : new.form ≡ old.form

-- where panes are written, a row that does nothing never stays
abbrev pub takes : Form → What → Bool
takes Panes Idle = false
takes form what = true

-- a row that does something, in front of others
abbrev pub queued_if : What → List ℕ → List Queued → List Queued
queued_if Idle text queue = queue
queued_if (Selected key time) text queue = (Selected key time, text) ∷ queue
queued_if (Accepted source) text queue = (Accepted source, text) ∷ queue

-- at a rise all that waited are queued
abbrev pub queue_at : Option ℤ → List Queued → List Queued → List Queued
queue_at None since queue = queue
queue_at (Some before) since queue = since ++ queue

abbrev pub since_at : Option ℤ → List Queued → List Queued
since_at None since = since
since_at (Some before) since = []

-- what is told of an event behind rows: what it does, the watermark before where it raises it, and the watermark now
pub record IsTold (q : Query) (rows : List Written) (e : Event) (judged : Judged) : Type 0 where
  pub what : judged.what ≡ what_of q (events_in read rows) (Ok e)
  pub rise : judged.rise ≡ rise_of q (events_in read rows) e
  pub mark : judged.mark ≡ mark q (e ∷ events_in read rows)

-- and what is queued are the rows that stay of them
pub record IsCut (q : Query) (k : Keeper) (rows : List Written) : Type 0 where
  pub fits : Fits q k rows
  pub texts : map row_of k.queue ≡ map text_of (staying_for_panes read q fits.queues.older)
  pub selected : selected_in k.queue ≡ admitted_count q.clock q.shape q.declared (needed_by_panes q (events_in read fits.queues.older))

-- where panes are written, as many of some queued rows select a record as are taken of what stays of rows
abbrev pub SelectsTaken : Query → List Written → List Queued → Type 0
SelectsTaken q rows queue = q.form ≡ Panes → selected_in queue ≡ admitted_count q.clock q.shape q.declared (needed q (events_in read rows))

-- the texts of rows stand behind those that were there, the oldest first, and so many rows they are
pub record AreAdded (old new : List ℕ) (rows : List Written) (count : ℕ) : Type 0 where
  pub texts : new ≡ old ++ joined (map text_of rows)
  pub many : count ≡ length rows

-- a query whose windows are some and whose sessions take records by their own times
pub record IsLawfulQuery (q : Query) : Type 0 where
  pub shape : IsShape q.shape
  pub timely : SessionsByEvent q
