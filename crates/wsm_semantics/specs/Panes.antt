-- Panes: each key and window that has contents, with these. Windows are assigned to a record and
-- merged at its key (Akidau et al. 2015); how long a pane is held is this project's own rule.
use Rattle.std.specs.Prelude.{ℕ, Bool, ◌&&◌, List, [], ◌∷◌, map, filter, flat_map, ℤ, nat_eq}
use Rattle.std.specs.FinMap.Entries.{put, where_key}
use Rattle.wsm_record.specs.Event.{Event}
use Rattle.wsm_windows.specs.declared.window.Window.{Window}
use Rattle.wsm_windows.specs.declared.window.Shape.{Shape}
use Rattle.wsm_windows.specs.declared.window.Shape.TheVariants.{Fixed, Sliding, Session}
use Rattle.wsm_windows.specs.Windows.{has_inside}
use Rattle.wsm_windows.specs.Places.{place_cmp, at, window_of}
use Rattle.wsm_windows.specs.Life.{is_live, live_windows_of}
use Rattle.wsm_windows.specs.declared.place.Place.{Place}
use Rattle.wsm_semantics.specs.Query.{Datum, Query, mark, selected}
use Rattle.wsm_semantics.specs.Sessions.{sessions}

abbrev pub of_key : ℕ → List Datum → List Datum
of_key key ds = filter (λ d. nat_eq d.key key) ds

-- the windows that a record stands in, among all selected records: those of its time that were live
-- before its turn, or its session
abbrev pub windows_among : Shape → ℤ → List Datum → Datum → List Window
windows_among (Fixed size) lateness ds d = live_windows_of (Fixed size) d.time lateness d.mark
windows_among (Sliding size period) lateness ds d = live_windows_of (Sliding size period) d.time lateness d.mark
windows_among (Session gap) lateness ds d = filter (has_inside d.time) (sessions gap (map (λ x. x.time) (of_key d.key ds)))

-- where the selected records stand, a place as often as records stand there
abbrev pub places : Query → List Event → List Place
places q past = let ds = selected q past in flat_map (λ d. map (at d.key) (windows_among q.shape q.clock.lateness ds d)) ds

-- inside a window, which, if it is no session, was live before the record's turn
abbrev pub stands_in : Shape → ℤ → Window → Datum → Bool
stands_in (Fixed size) lateness w d = has_inside d.time w && is_live w lateness d.mark
stands_in (Sliding size period) lateness w d = has_inside d.time w && is_live w lateness d.mark
stands_in (Session gap) lateness w d = has_inside d.time w

-- of the key, and in the window
abbrev pub is_there : Query → Place → Datum → Bool
is_there q p d = nat_eq d.key p.key && stands_in q.shape q.clock.lateness (window_of p) d

-- the selected records of a place, the newest first
abbrev pub contents : Query → List Event → Place → List Datum
contents q past p = filter (is_there q p) (selected q past)

abbrev pub with_contents : (Place → List Datum) → List Place → List (Place × List Datum)
with_contents c [] = []
with_contents c (p ∷ ps) = put place_cmp p (c p) (with_contents c ps)

-- each place that has contents, with these, in the order of places
abbrev pub panes : Query → List Event → List (Place × List Datum)
panes q past = with_contents (contents q past) (places q past)

-- the end and the lateness are past the watermark
abbrev pub is_live_at : Query → ℤ → Place → Bool
is_live_at q w p = is_live (window_of p) q.clock.lateness w

-- the panes that are held after a history
abbrev pub held : Query → List Event → List (Place × List Datum)
held q past = where_key place_cmp (is_live_at q (mark q past)) (panes q past)
