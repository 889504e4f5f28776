-- How many firings of a history have a selected record in their firing set; a firing whose HAVING is
-- false counts too. Discarding panes are those of the Dataflow Model (Akidau et al. 2015); which
-- firings show a record, and when a window is dropped, are this project's own rules.
use Rattle.std.specs.Prelude.{◌≡◌, ℕ, ◌≤◌, Bool, ◌&&◌, List, length, filter, Contains, ◌+ℤ◌, ◌≤ℤ◌, if◌then◌else◌}
use Rattle.wsm_record.specs.Event.{Event}
use Rattle.wsm_windows.specs.declared.window.Window.{Window}
use Rattle.wsm_windows.specs.declared.place.Place.{Place}
use Rattle.wsm_windows.specs.Places.{at}
use Rattle.wsm_semantics.specs.Query.{Datum, Query, mark, selected}
use Rattle.wsm_semantics.specs.Panes.{windows_among}
use Rattle.wsm_semantics.specs.Firings.{Firing, holds, shows, is_shown, firings_so_far}

-- a firing of the place, for sessions of its key, that has the record in its firing set
abbrev pub has_in_set : Query → Place → Datum → Firing → Bool
has_in_set q p d f = shows q.shape p f.place && holds d f.fired

-- how many firings of a history are such
abbrev pub times_fired : Query → List Event → Place → Datum → ℕ
times_fired q past p d = length (filter (has_in_set q p d) (firings_so_far q past))

-- the window is one that a selected record stands in
pub record StandsIn (q : Query) (past : List Event) (d : Datum) (w : Window) : Type 0 where
  pub is_selected : Contains (selected q past) d
  pub is_among : Contains (windows_among q.shape q.clock.lateness (selected q past) d) w

-- the watermark came to the window's end and the lateness
abbrev pub IsDropped : Query → List Event → Window → Type 0
IsDropped q past w = (w.end +ℤ q.clock.lateness) ≤ℤ mark q past

-- after any history a record is in one firing set where it is shown, and in none where it isn't; so
-- in one at most; and in exactly one for each of its windows that was dropped
pub record FiresOnce (q : Query) : Type 0 where
  pub where_shown : (past : List Event) (p : Place) (d : Datum) → times_fired q past p d ≡ if is_shown q past p d then 1 else 0
  pub at_most : (past : List Event) (p : Place) (d : Datum) → times_fired q past p d ≤ 1
  pub once_dropped : (past : List Event) (d : Datum) (w : Window) → StandsIn q past d w → IsDropped q past w → times_fired q past (at d.key w) d ≡ 1
