-- What is kept of each held pane in place of the history, still as its records: all of them, those
-- that no firing showed yet, and what stands for it in the relation. An event changes what is kept
-- and fires by what is kept alone. Windows are assigned to a record and merged at its key (Akidau et
-- al. 2015); which firing stands is this project's own rule.
use Rattle.std.specs.Prelude.{ℕ, Bool, ◌&&◌, not, List, [], ◌∷◌, ◌++◌, map, length, filter, filter_map, ℤ, ◌+ℤ◌, nat_lt, nat_eq, Option, Some, None, is_some, option_map, if◌then◌else◌}
use Rattle.std.specs.Int.{int_max, int_min}
use Rattle.std.specs.FinMap.Entries.{put, find, where_key}
use Rattle.wsm_record.specs.declared.cell.Cell.{Cell}
use Rattle.wsm_record.specs.declared.words.Mode.{Mode}
use Rattle.wsm_record.specs.Event.{Event}
use Rattle.wsm_windows.specs.declared.window.PaneKind.{PaneKind}
use Rattle.wsm_windows.specs.declared.window.Window.{Window}
use Rattle.wsm_windows.specs.declared.window.Shape.{Shape}
use Rattle.wsm_windows.specs.declared.window.Shape.TheVariants.{Fixed, Sliding, Session}
use Rattle.wsm_windows.specs.Windows.{window}
use Rattle.wsm_windows.specs.Life.{live_windows_of}
use Rattle.wsm_windows.specs.declared.place.Place.{Place}
use Rattle.wsm_windows.specs.Places.{place_cmp, at, window_of}
use Rattle.wsm_semantics.specs.Query.{Datum, Query}
use Rattle.wsm_semantics.specs.Sessions.{links}
use Rattle.wsm_semantics.specs.Panes.{is_there, is_live_at, held}
use Rattle.wsm_semantics.specs.Firings as Firings
use Rattle.wsm_semantics.specs.Firings.{firing_set, firing_of, kind_on_record, kind_on_watermark, is_shown, firings_so_far}
use Rattle.wsm_semantics.specs.StandingFirings.{candidates, greatest_of}
use Rattle.wsm_semantics.specs.Relation.{sorted_rows}

-- what stands for a pane: nothing, as no part of it fired; a firing of this window, over these records;
-- or nothing, as two parts that fired were joined since
pub data Stands : Type 0 where
  Unfired : Stands
  Firing : (window : Window) → (fired : List Datum) → Stands
  Joined : Stands

pub record Kept : Type 0 where
  pub all : List Datum
  pub unshown : List Datum
  pub stands : Stands

-- ---- what the history says

abbrev pub stands_by : List Firings.Firing → Option Firings.Firing → Stands
stands_by [] _ = Unfired
stands_by (f ∷ fs) (Some g) = Firing (window_of g.place) g.fired
stands_by (f ∷ fs) None = Joined

abbrev pub stands_in : Query → List Event → Place → List Datum → Stands
stands_in q past p all = let fs = candidates q p all (firings_so_far q past) in stands_by fs (greatest_of fs)

abbrev pub kept_in : Query → List Event → Place × List Datum → Place × Kept
kept_in q past e = (
  e.0,
  record {
    all = e.1;
    unshown = filter (λ d. not (is_shown q past e.0 d)) e.1;
    stands = stands_in q past e.0 e.1;
  },
)

-- what is kept of each held pane
abbrev pub kept : Query → List Event → List (Place × Kept)
kept q past = map (kept_in q past) (held q past)

-- ---- what an event does

-- records of two parts, the newest first
abbrev pub with_datum : Datum → List Datum → List Datum
with_datum d [] = d ∷ []
with_datum d (x ∷ xs) = if nat_lt x.turn d.turn then d ∷ x ∷ xs else x ∷ with_datum d xs

abbrev pub merged : List Datum → List Datum → List Datum
merged [] ys = ys
merged (x ∷ xs) ys = with_datum x (merged xs ys)

abbrev pub stands_joined : Stands → Stands → Stands
stands_joined Unfired s = s
stands_joined s Unfired = s
stands_joined _ _ = Joined

abbrev pub joined : Kept → Kept → Kept
joined a b = record { all = merged a.all b.all; unshown = merged a.unshown b.unshown; stands = stands_joined a.stands b.stands }

abbrev pub alone : Datum → Kept
alone d = record { all = d ∷ []; unshown = d ∷ []; stands = Unfired }

abbrev pub with_record : Datum → Option Kept → Kept
with_record d None = alone d
with_record d (Some h) = record h { all = d ∷ h.all; unshown = d ∷ h.unshown }

-- a record put into the panes of some windows
abbrev pub assigned : Datum → List Window → List (Place × Kept) → List (Place × Kept)
assigned d [] panes = panes
assigned d (w ∷ ws) panes = assigned d ws (put place_cmp (at d.key w) (with_record d (find place_cmp (at d.key w) panes)) panes)

-- a session of the record's key that it is linked to
abbrev pub is_linked : ℤ → Datum → Place → Bool
is_linked gap d p = nat_eq d.key p.key && links gap d.time (window_of p)

-- the session of a record and of those that it is linked to
abbrev pub session_with : {A : Type 0} → ℤ → Datum → List (Place × A) → Place
session_with gap d [] = at d.key (window d.time (d.time +ℤ gap))
session_with gap d (e ∷ es) = let p = session_with gap d es in at d.key (window (int_min e.0.start p.start) (int_max e.0.end p.end))

-- what panes keep, put together
abbrev pub joined_to : Kept → Option Kept → Kept
joined_to a None = a
joined_to a (Some b) = joined a b

abbrev pub joined_all : List (Place × Kept) → Option Kept
joined_all [] = None
joined_all (e ∷ es) = Some (joined_to e.1 (joined_all es))

-- a record put into its session, which joins those that it is linked to
abbrev pub merged_session : ℤ → Datum → List (Place × Kept) → List (Place × Kept)
merged_session gap d panes =
    let linked = filter (λ e. is_linked gap d e.0) panes in
    put place_cmp (session_with gap d linked) (with_record d (joined_all linked)) (where_key place_cmp (λ p. not (is_linked gap d p)) panes)

-- a record put into the panes of its windows that are live, or into its session
abbrev pub entered : Shape → ℤ → Datum → List (Place × Kept) → List (Place × Kept)
entered (Fixed size) lateness d panes = assigned d (live_windows_of (Fixed size) d.time lateness d.mark) panes
entered (Sliding size period) lateness d panes = assigned d (live_windows_of (Sliding size period) d.time lateness d.mark) panes
entered (Session gap) lateness d panes = merged_session gap d panes

-- what a pane fires as, by a record that is in it or not, and by a watermark
abbrev pub kind_by_record : Query → ℤ → Datum → Place → Kept → Option PaneKind
kind_by_record q w d p h = if is_there q p d then kind_on_record q w p.end (length h.unshown) else None

abbrev pub kind_by_watermark : Query → ℤ → ℤ → Place → Kept → Option PaneKind
kind_by_watermark q old new p h = kind_on_watermark q old new p (length (firing_set q.mode h.all h.unshown)) (length h.unshown)

abbrev pub fires : Query → ℕ → (Place → Kept → Option PaneKind) → List (Place × Kept) → List Firings.Firing
fires q turn kind panes = filter_map (λ e. firing_of turn e.0 e.1.all (firing_set q.mode e.1.all e.1.unshown) (kind e.0 e.1)) panes

-- a pane that fires has shown all of its records, and stands
abbrev pub fired_kept : Mode → Place → Option PaneKind → Kept → Kept
fired_kept mode p None h = h
fired_kept mode p (Some kind) h = record h { unshown = []; stands = Firing (window_of p) (firing_set mode h.all h.unshown) }

abbrev pub all_fired : Query → (Place → Kept → Option PaneKind) → List (Place × Kept) → List (Place × Kept)
all_fired q kind panes = map (λ e. (e.0, fired_kept q.mode e.0 (kind e.0 e.1) e.1)) panes

-- what is kept after a selected record, and after a watermark that goes from old to new
abbrev pub kept_after_record : Query → ℤ → Datum → List (Place × Kept) → List (Place × Kept)
kept_after_record q w d panes = all_fired q (kind_by_record q w d) (entered q.shape q.clock.lateness d panes)

abbrev pub fired_by_record : Query → ℤ → Datum → List (Place × Kept) → List Firings.Firing
fired_by_record q w d panes = fires q d.turn (kind_by_record q w d) (entered q.shape q.clock.lateness d panes)

-- before the drops
abbrev pub kept_at_watermark : Query → ℤ → ℤ → List (Place × Kept) → List (Place × Kept)
kept_at_watermark q old new panes = all_fired q (kind_by_watermark q old new) panes

abbrev pub fired_by_watermark : Query → ℕ → ℤ → ℤ → List (Place × Kept) → List Firings.Firing
fired_by_watermark q turn old new panes = fires q turn (kind_by_watermark q old new) panes

abbrev pub kept_after_watermark : Query → ℤ → ℤ → List (Place × Kept) → List (Place × Kept)
kept_after_watermark q old new panes = where_key place_cmp (is_live_at q new) (kept_at_watermark q old new panes)

-- the row that stands for a pane
abbrev pub standing_row : Query → Place → Stands → Option (List Cell)
standing_row q p Unfired = None
standing_row q p (Firing window fired) = q.row p.key fired
standing_row q p Joined = None

-- the relation that panes stand for
abbrev pub relation_of : Query → List (Place × Kept) → List (List Cell)
relation_of q panes = sorted_rows (filter_map (λ e. standing_row q e.0 e.1.stands) panes)

-- ---- what a turn withdraws

-- what was written of the firing that stands for a pane
abbrev pub written_by : Query → Place → Stands → Option (Place × List Cell)
written_by q p Unfired = None
written_by q p (Firing window fired) = option_map (λ columns. (at p.key window, columns)) (q.row p.key fired)
written_by q p Joined = None

-- a join withdraws what stood for its parts where nothing stands for them joined
abbrev pub parted : Query → Stands → List (Place × Kept) → List (Place × List Cell)
parted q Joined parts = filter_map (λ e. written_by q e.0 e.1.stands) parts
parted q _ parts = []

abbrev pub parted_by : Query → List (Place × Kept) → Option Kept → List (Place × List Cell)
parted_by q parts None = []
parted_by q parts (Some h) = parted q h.stands parts

-- what a record withdraws as it enters: in sessions, by joining those that it is linked to
abbrev pub withdrawn_entering : Query → Shape → Datum → List (Place × Kept) → List (Place × List Cell)
withdrawn_entering q (Fixed size) d panes = []
withdrawn_entering q (Sliding size period) d panes = []
withdrawn_entering q (Session gap) d panes = let parts = filter (λ e. is_linked gap d e.0) panes in parted_by q parts (joined_all parts)

-- what panes withdraw as they fire
abbrev pub withdrawn_firing : Query → (Place → Kept → Option PaneKind) → List (Place × Kept) → List (Place × List Cell)
withdrawn_firing q kind panes = filter_map (λ e. if is_some (kind e.0 e.1) then written_by q e.0 e.1.stands else None) panes

abbrev pub withdrawn_by_record : Query → ℤ → Datum → List (Place × Kept) → List (Place × List Cell)
withdrawn_by_record q w d panes = withdrawn_entering q q.shape d panes ++ withdrawn_firing q (kind_by_record q w d) (entered q.shape q.clock.lateness d panes)

abbrev pub withdrawn_by_watermark : Query → ℤ → ℤ → List (Place × Kept) → List (Place × List Cell)
withdrawn_by_watermark q old new panes = withdrawn_firing q (kind_by_watermark q old new) panes
