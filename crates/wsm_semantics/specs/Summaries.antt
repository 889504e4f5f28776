-- What is kept of each held pane in place of its records: how many it has, how many no firing showed
-- yet, what those that its next firing is computed over are folded to, and the row that stands for
-- it. A plan runs a query's clauses on what is folded. Windows are assigned to a record and merged at
-- its key (Akidau et al. 2015); which row stands is this project's own rule.
use Rattle.std.specs.Prelude.{◌≡◌, ℕ, ◌+◌, Bool, false, not, nat_lt, List, [], ◌∷◌, ◌++◌, map, length, filter, filter_map, ℤ, Option, Some, None, is_some, option_map, if◌then◌else◌}
use Rattle.std.specs.Option.{option_and_then}
use Rattle.std.specs.FinMap.Entries.{put, find, where_key}
use Rattle.wsm_record.specs.declared.event.Value.{Value}
use Rattle.wsm_record.specs.declared.cell.Cell.{Cell}
use Rattle.wsm_record.specs.declared.words.Mode.{Mode}
use Rattle.wsm_record.specs.Modes.{is_over_all, retracts}
use Rattle.wsm_windows.specs.declared.window.PaneKind.{PaneKind}
use Rattle.wsm_windows.specs.declared.window.Window.{Window}
use Rattle.wsm_windows.specs.declared.window.Shape.{Shape}
use Rattle.wsm_windows.specs.declared.window.Shape.TheVariants.{Fixed, Sliding, Session}
use Rattle.wsm_windows.specs.Life.{live_windows_of}
use Rattle.wsm_windows.specs.declared.place.Place.{Place}
use Rattle.wsm_windows.specs.Places.{place_cmp, at, window_of}
use Rattle.wsm_semantics.specs.declared.out_row.OutRow.{OutRow}
use Rattle.wsm_semantics.specs.declared.out_row.OutRow.TheVariants as rows
pub use Rattle.wsm_semantics.specs.declared.standing.Standing.{Standing}
pub use Rattle.wsm_semantics.specs.declared.standing.Standing.TheVariants.{Unfired, Row, Joined}
use Rattle.wsm_semantics.specs.Query.{Datum, Query}
use Rattle.wsm_semantics.specs.Panes.{is_there, is_live_at}
use Rattle.wsm_semantics.specs.Firings.{Firing, firing_set, kind_on_record, kind_on_watermark}
use Rattle.wsm_semantics.specs.Relation.{sorted_rows}
use Rattle.wsm_semantics.specs.Kept as kept
use Rattle.wsm_semantics.specs.Kept.{Kept, Stands, is_linked}
pub use Rattle.wsm_semantics.specs.Kept.{session_with}

-- how a query's clauses run on what records are folded to
pub record Plan (X : Type 0) : Type 0 where
  pub selects : ℕ → List Value → Bool  -- whether WHERE is true of a key and values
  pub first : ℕ → List Value → X  -- one record, by its key and values
  pub more : X → ℕ → List Value → X  -- a record more
  pub join : X → X → X  -- two bags of records in one
  pub row : ℕ → ℕ → X → Option (List Cell)  -- the columns of a key, a number of records and what they are folded to, where HAVING is true

-- records are folded in any order and in any groups
pub record IsLawful {X : Type 0} (plan : Plan X) : Type 0 where
  pub more : (x : X) (key : ℕ) (values : List Value) → plan.more x key values ≡ plan.join x (plan.first key values)
  pub commutative : (x y : X) → plan.join x y ≡ plan.join y x
  pub associative : (x y z : X) → plan.join (plan.join x y) z ≡ plan.join x (plan.join y z)

pub record Pane (X : Type 0) : Type 0 where
  pub count : ℕ
  pub unshown : ℕ
  pub folded : Option X  -- of the records that the next firing is computed over, where there are any
  pub stands : Standing

-- a firing: the number of records that it is computed over, and what they are folded to
pub record Fired (X : Type 0) : Type 0 where
  pub kind : PaneKind
  pub place : Place
  pub count : ℕ
  pub folded : Option X

-- ---- what an event does

abbrev pub standing_joined : Standing → Standing → Standing
standing_joined Unfired s = s
standing_joined s Unfired = s
standing_joined _ _ = Joined

-- how many records a firing is computed over, by how many there are and how many are unshown
abbrev pub computed_over : Mode → ℕ → ℕ → ℕ
computed_over mode count unshown = if is_over_all mode then count else unshown

-- how many records the next firing of a pane is computed over
abbrev pub fired_count : {X : Type 0} → Mode → Pane X → ℕ
fired_count mode h = computed_over mode h.count h.unshown

-- what a firing leaves of what was folded
abbrev pub left_folded : {X : Type 0} → Mode → Option X → Option X
left_folded mode x = if is_over_all mode then x else None

-- the sessions that a record is linked to
abbrev pub linked : {X : Type 0} → ℤ → Datum → List (Place × Pane X) → List (Place × Pane X)
linked gap d panes = filter (λ e. is_linked gap d e.0) panes

-- whether a record joins sessions
abbrev pub joins_sessions : {X : Type 0} → Shape → Datum → List (Place × Pane X) → Bool
joins_sessions (Fixed size) d panes = false
joins_sessions (Sliding size period) d panes = false
joins_sessions (Session gap) d panes = nat_lt 1 (length (linked gap d panes))

-- how many windows a record of a time is put into at a mark: its session, or those of its time that are live
abbrev pub windows_entered : Shape → ℤ → ℤ → ℤ → ℕ
windows_entered (Session gap) time lateness mark = 1
windows_entered shape time lateness mark = length (live_windows_of shape time lateness mark)

-- what a pane fires as, by a record that is in it or not, and by a watermark
abbrev pub kind_by_record : {X : Type 0} → Query → ℤ → Datum → Place → Pane X → Option PaneKind
kind_by_record q w d p h = if is_there q p d then kind_on_record q w p.end h.unshown else None

abbrev pub kind_by_watermark : {X : Type 0} → Query → ℤ → ℤ → Place → Pane X → Option PaneKind
kind_by_watermark q old new p h = kind_on_watermark q old new p (fired_count q.mode h) h.unshown

abbrev pub fired_of : {X : Type 0} → Mode → Place → Pane X → Option PaneKind → Option (Fired X)
fired_of mode p h None = None
fired_of mode p h (Some kind) = Some (record { kind = kind; place = p; count = fired_count mode h; folded = h.folded })

abbrev pub fires : {X : Type 0} → Query → (Place → Pane X → Option PaneKind) → List (Place × Pane X) → List (Fired X)
fires q kind panes = filter_map (λ e. fired_of q.mode e.0 e.1 (kind e.0 e.1)) panes

abbrev pub standing_row : Standing → Option (List Cell)
standing_row Unfired = None
standing_row (Row window columns) = columns
standing_row Joined = None

-- the relation that panes stand for
abbrev pub relation_of : {X : Type 0} → List (Place × Pane X) → List (List Cell)
relation_of panes = sorted_rows (filter_map (λ e. standing_row e.1.stands) panes)

-- the window of a firing is kept where panes retract alone, as it is to be withdrawn by it
abbrev pub kept_window : Mode → Window → Option Window
kept_window mode w = if retracts mode then Some w else None

-- what was written of the firing that stands for a pane, where its window is kept
abbrev pub written_by : Place → Standing → Option (Place × List Cell)
written_by p Unfired = None
written_by p (Row (Some window) columns) = option_map (λ cells. (at p.key window, cells)) columns
written_by p (Row None columns) = None
written_by p Joined = None

-- a join withdraws what stood for its parts where nothing stands for them joined
abbrev pub parted : {X : Type 0} → Standing → List (Place × Pane X) → List (Place × List Cell)
parted Joined parts = filter_map (λ e. written_by e.0 e.1.stands) parts
parted _ parts = []

abbrev pub parted_by : {X : Type 0} → List (Place × Pane X) → Option (Pane X) → List (Place × List Cell)
parted_by parts None = []
parted_by parts (Some h) = parted h.stands parts

-- what panes withdraw as they fire
abbrev pub withdrawn_firing : {X : Type 0} → (Place → Pane X → Option PaneKind) → List (Place × Pane X) → List (Place × List Cell)
withdrawn_firing kind panes = filter_map (λ e. if is_some (kind e.0 e.1) then written_by e.0 e.1.stands else None) panes

abbrev pub withdrawn_by_watermark : {X : Type 0} → Query → ℤ → ℤ → List (Place × Pane X) → List (Place × List Cell)
withdrawn_by_watermark q old new panes = withdrawn_firing (kind_by_watermark q old new) panes

module _ {X : Type 0} (plan : Plan X) where
  abbrev pub with_folded : Datum → Option X → X
  with_folded d None = plan.first d.key d.values
  with_folded d (Some x) = plan.more x d.key d.values

  abbrev pub joined_folds : Option X → Option X → Option X
  joined_folds None y = y
  joined_folds (Some x) None = Some x
  joined_folds (Some x) (Some y) = Some (plan.join x y)

  -- the columns of a key and so many records, where there are any and HAVING is true
  abbrev pub columns : ℕ → ℕ → Option X → Option (List Cell)
  columns key n x = option_and_then (plan.row key n) x

  abbrev pub with_record : Datum → Option (Pane X) → Pane X
  with_record d None = record { count = 1; unshown = 1; folded = Some (with_folded d None); stands = Unfired }
  with_record d (Some h) = record h { count = h.count + 1; unshown = h.unshown + 1; folded = Some (with_folded d h.folded) }

  abbrev pub joined : Pane X → Pane X → Pane X
  joined a b = record {
    count = a.count + b.count;
    unshown = a.unshown + b.unshown;
    folded = joined_folds a.folded b.folded;
    stands = standing_joined a.stands b.stands;
  }

  abbrev pub joined_with : Pane X → Option (Pane X) → Pane X
  joined_with h None = h
  joined_with h (Some g) = joined h g

  abbrev pub joined_all : List (Place × Pane X) → Option (Pane X)
  joined_all [] = None
  joined_all (e ∷ es) = Some (joined_with e.1 (joined_all es))

  -- a record put into the panes of some windows
  abbrev pub assigned : Datum → List Window → List (Place × Pane X) → List (Place × Pane X)
  assigned d [] panes = panes
  assigned d (w ∷ ws) panes = assigned d ws (put place_cmp (at d.key w) (with_record d (find place_cmp (at d.key w) panes)) panes)

  -- a record put into its session, which joins those that it is linked to
  abbrev pub merged_session : ℤ → Datum → List (Place × Pane X) → List (Place × Pane X)
  merged_session gap d panes =
      let parts = linked gap d panes in
      put place_cmp (session_with gap d parts) (with_record d (joined_all parts)) (where_key place_cmp (λ p. not (is_linked gap d p)) panes)

  -- a record put into the panes of its windows that are live, or into its session
  abbrev pub entered : Shape → ℤ → Datum → List (Place × Pane X) → List (Place × Pane X)
  entered (Fixed size) lateness d panes = assigned d (live_windows_of (Fixed size) d.time lateness d.mark) panes
  entered (Sliding size period) lateness d panes = assigned d (live_windows_of (Sliding size period) d.time lateness d.mark) panes
  entered (Session gap) lateness d panes = merged_session gap d panes

  -- a pane that fires has shown all of its records, and its row stands
  abbrev pub fired_pane : Mode → Place → Option PaneKind → Pane X → Pane X
  fired_pane mode p None h = h
  fired_pane mode p (Some kind) h =
      record h { unshown = 0; folded = left_folded mode h.folded; stands = Row (kept_window mode (window_of p)) (columns p.key (fired_count mode h) h.folded) }

  abbrev pub all_fired : Query → (Place → Pane X → Option PaneKind) → List (Place × Pane X) → List (Place × Pane X)
  all_fired q kind panes = map (λ e. (e.0, fired_pane q.mode e.0 (kind e.0 e.1) e.1)) panes

  -- what is kept after a selected record, and after a watermark that goes from old to new
  abbrev pub after_record : Query → ℤ → Datum → List (Place × Pane X) → List (Place × Pane X)
  after_record q w d panes = all_fired q (kind_by_record q w d) (entered q.shape q.clock.lateness d panes)

  abbrev pub fired_by_record : Query → ℤ → Datum → List (Place × Pane X) → List (Fired X)
  fired_by_record q w d panes = fires q (kind_by_record q w d) (entered q.shape q.clock.lateness d panes)

  -- what a record withdraws as it enters: in sessions, by joining those that it is linked to
  abbrev pub withdrawn_entering : Shape → Datum → List (Place × Pane X) → List (Place × List Cell)
  withdrawn_entering (Fixed size) d panes = []
  withdrawn_entering (Sliding size period) d panes = []
  withdrawn_entering (Session gap) d panes = let parts = linked gap d panes in parted_by parts (joined_all parts)

  abbrev pub withdrawn_by_record : Query → ℤ → Datum → List (Place × Pane X) → List (Place × List Cell)
  withdrawn_by_record q w d panes = withdrawn_entering q.shape d panes ++ withdrawn_firing (kind_by_record q w d) (entered q.shape q.clock.lateness d panes)

  -- before the drops
  abbrev pub at_watermark : Query → ℤ → ℤ → List (Place × Pane X) → List (Place × Pane X)
  at_watermark q old new panes = all_fired q (kind_by_watermark q old new) panes

  abbrev pub fired_by_watermark : Query → ℤ → ℤ → List (Place × Pane X) → List (Fired X)
  fired_by_watermark q old new panes = fires q (kind_by_watermark q old new) panes

  abbrev pub after_watermark : Query → ℤ → ℤ → List (Place × Pane X) → List (Place × Pane X)
  after_watermark q old new panes = where_key place_cmp (is_live_at q new) (at_watermark q old new panes)

  -- the row of a firing, where HAVING is true
  abbrev pub row_of : Fired X → Option OutRow
  row_of f = option_map (rows.Pane f.kind f.place.key (window_of f.place)) (columns f.place.key f.count f.folded)

  -- ---- what is kept of records

  -- what records are folded to, where there are any
  abbrev pub folded_of : List Datum → Option X
  folded_of [] = None
  folded_of (d ∷ ds) = Some (with_folded d (folded_of ds))

  abbrev pub standing_of : Mode → ℕ → Stands → Standing
  standing_of mode key kept.Unfired = Unfired
  standing_of mode key (kept.Firing window fired) = Row (kept_window mode window) (columns key (length fired) (folded_of fired))
  standing_of mode key kept.Joined = Joined

  abbrev pub pane_of : Mode → ℕ → Kept → Pane X
  pane_of mode key h = record {
    count = length h.all;
    unshown = length h.unshown;
    folded = folded_of (firing_set mode h.all h.unshown);
    stands = standing_of mode key h.stands;
  }

  -- each held pane with what is kept of its records
  abbrev pub summaries : Mode → List (Place × Kept) → List (Place × Pane X)
  summaries mode panes = map (λ e. (e.0, pane_of mode e.0.key e.1)) panes

  abbrev pub summary_fired : Firing → Fired X
  summary_fired f = record { kind = f.kind; place = f.place; count = length f.fired; folded = folded_of f.fired }

-- the plan runs the query
pub record Runs {X : Type 0} (plan : Plan X) (q : Query) : Type 0 where
  pub selects : (key : ℕ) (values : List Value) → plan.selects key values ≡ q.selects key values
  pub row : (key : ℕ) (ds : List Datum) → columns plan key (length ds) (folded_of plan ds) ≡ q.row key ds
