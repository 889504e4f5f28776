-- The events of a history that what follows hangs on: the records that stand in a window, or in a session, that is live, and
-- the watermarks of each source that come last before one of these, or at the end. How long windows are live and which
-- records are selected are this project's own rules.
use Rattle.std.specs.Prelude.{◌≡◌, ℕ, Bool, false, ◌&&◌, not, List, [], ◌∷◌, ◌++◌, map, ℤ, int_lt, nat_eq, Some, None, if◌then◌else◌}
use Rattle.std.specs.List.{list_any}
use Rattle.wsm_record.specs.declared.words.Form.{Form}
use Rattle.wsm_record.specs.declared.words.Form.TheVariants as form
use Rattle.wsm_record.specs.Event.{Event, Record, Watermark}
use Rattle.wsm_windows.specs.Life.{is_live}
use Rattle.wsm_semantics.specs.Query.{Datum, Query, mark, raises, verdict_on, is_taken, selected}
use Rattle.wsm_semantics.specs.Panes.{windows_among}
use Rattle.wsm_semantics.specs.Firings.{firings}
use Rattle.wsm_semantics.specs.Relation.{turn_rows}
use Rattle.wsm_semantics.specs.Summaries.{Plan, summary_fired}
use Rattle.wsm_semantics.specs.ByKey.{HasRoom}
use Rattle.wsm_semantics.specs.FromWatermark.{begun_at, Times, dropped_times, BothHaveRoom}
use Rattle.wsm_semantics.specs.FromKept.{KeepAlike}

-- a record that was selected, with a time after that of its key
abbrev pub is_selected_after : Query → Times → List Event → Event → Bool
is_selected_after q x past (Record None time values) = false
is_selected_after q x past (Record (Some key) time values) = int_lt (x key) time && (is_taken q past (Record (Some key) time values) && q.selects key values)
is_selected_after q x past (Watermark source time) = false

abbrev pub is_one_of : List ℕ → ℕ → Bool
is_one_of sources s = list_any (λ n. nat_eq n s) sources

-- the records that were selected, with times after that of their key, and of the watermarks that were accepted the last of
-- each source before each of these, and at the end; but there none of some sources
abbrev pub needed_without : Query → Times → List ℕ → List Event → List Event
needed_without q x told [] = []
needed_without q x told (Record key time values ∷ past) =
    if is_selected_after q x past (Record key time values) then Record key time values ∷ needed_without q x [] past else needed_without q x told past
needed_without q x told (Watermark None time ∷ past) = needed_without q x told past
needed_without q x told (Watermark (Some s) time ∷ past) =
    if is_taken q past (Watermark (Some s) time) && not (is_one_of told s) then Watermark (Some s) time ∷ needed_without q x (s ∷ told) past
    else needed_without q x told past

-- those that stand in a window that is live, and watermarks
abbrev pub needed_by_panes : Query → List Event → List Event
needed_by_panes q past = needed_without q (dropped_times q past) [] past

-- the relation at the last rise of the watermark hangs on what was kept before it
abbrev pub needed_by_streams : Query → List Event → List Event
needed_by_streams q [] = []
needed_by_streams q (e ∷ past) = e ∷ (if raises q past e then needed_by_panes q past else needed_by_streams q past)

abbrev pub needed_by : Form → Query → List Event → List Event
needed_by form.Panes q past = needed_by_panes q past
needed_by _ q past = needed_by_streams q past

-- the events of a history that what follows hangs on
abbrev pub needed : Query → List Event → List Event
needed q past = needed_by q.form q past

-- a selected record has such a time where a window, or the session, in which it stands is live
abbrev pub IsOfLive : Query → List Event → Datum → Type 0
IsOfLive q past d = int_lt (dropped_times q past d.key) d.time ≡ list_any (λ w. is_live w q.clock.lateness (mark q past)) (windows_among q.shape q.clock.lateness (selected q past) d)

-- ---- what follows

-- what follows on a history follows on its needed events alone: whatever events come, none is refused for RECORDS where none
-- is of the whole, each has the same verdict, fires the same windows, over as many records that are folded to the same, and
-- writes the same rows; and of each held pane the same is kept
pub record NeededAlone {X : Type 0} (plan : Plan X) (q : Query) (past : List Event) : Type 0 where
  pub room : (events : List Event) → HasRoom q (events ++ past) → HasRoom q (events ++ needed q past)
  pub kept : (events : List Event) → HasRoom q (events ++ past) → KeepAlike plan q q.clock.start q.clock.records (events ++ past) (events ++ needed q past)
  pub verdict : (events : List Event) (e : Event) → HasRoom q (e ∷ events ++ past) → verdict_on q (events ++ needed q past) e ≡ verdict_on q (events ++ past) e
  pub firings : (events : List Event) (e : Event) → HasRoom q (e ∷ events ++ past) → map (summary_fired plan) (firings q (events ++ past) e) ≡ map (summary_fired plan) (firings q (events ++ needed q past) e)
  pub rows : (events : List Event) (e : Event) → HasRoom q (e ∷ events ++ past) → turn_rows q (events ++ past) e ≡ turn_rows q (events ++ needed q past) e

-- by a query with another START and another RECORDS, where none is refused for RECORDS by either
abbrev pub WritesAlike : Query → ℤ → ℤ → List Event → List Event → Type 0
WritesAlike q start records past other = (events : List Event) (e : Event) → BothHaveRoom q start records (e ∷ events ++ past) (e ∷ events ++ other) →
    turn_rows q (events ++ past) e ≡ turn_rows (begun_at start records q) (events ++ other) e
