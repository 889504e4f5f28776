-- Once the watermark is far enough past the times of all keys, all that is held and fires begins after these, where windows
-- don't merge or the times part no session: so all is the same by both histories.
use Rattle.std.proofs.Common.{◌≡◌, ℕ, Bool, true, false, List, ◌∷◌, ◌++◌, map, length, ℤ, pos, ◌≤ℤ◌, ◌+ℤ◌, ◌*ℤ◌, Some, None, refl, sym, ap, subst, ◌∙◌, ⊎_elim, arith}
use Rattle.std.proofs.lemmas.Int.{ints}
use Rattle.std.proofs.lemmas.Bool.{or_cases}
use Rattle.std.specs.Prelude.{filter, int_le, int_lt}
use Rattle.std.specs.List.{AllByRecursion}
use Rattle.wsm_record.specs.declared.words.Form.TheVariants.{Panes}
use Rattle.wsm_record.specs.Event.{Event}
use Rattle.wsm_windows.specs.declared.window.Shape.{Shape}
use Rattle.wsm_windows.specs.declared.window.Shape.TheVariants.{Fixed, Sliding, Session}
use Rattle.wsm_windows.specs.Windows.{IsShape, period_of, last_start, IsWindowOfShape}
use Rattle.wsm_windows.specs.declared.place.Place.{Place}
use Rattle.wsm_windows.specs.Places.{window_of}
use Rattle.wsm_semantics.specs.Query.{Datum, Query, SessionsByEvent, mark, raises, selected}
use Rattle.wsm_semantics.specs.Panes.{places, panes, held, is_live_at}
use Rattle.wsm_semantics.specs.Firings.{Firing, firings, firing_of, firing_set, kind_on, pane_rows}
use Rattle.wsm_semantics.specs.Retractions.{retract_rows}
use Rattle.wsm_semantics.specs.Relation.{relation, turn_rows}
use Rattle.wsm_semantics.specs.ByKey.{IgnoresTurns, firing_at, pane_at}
use Rattle.wsm_semantics.specs.ByNumber.{row_by}
use Rattle.wsm_semantics.specs.FromWatermark.{begun_at, Step, Stays, Times, whole, rest, begins_after, is_after, is_beyond, is_beside, PartsNoSession, HasNoSessions, last_end, IsSettled, SameOnceSettled}
use Rattle.wsm_semantics.proofs.Decided.{no_less}
use Rattle.wsm_semantics.proofs.Tables.{among}
use Rattle.wsm_semantics.proofs.Assigned.{IsAssigned}
use Rattle.wsm_semantics.proofs.AssignedStep.{grid_of}
use Rattle.wsm_semantics.proofs.Each.{all_of, all-passed, filter_map-all}
use Rattle.wsm_semantics.proofs.Effects.{by_effect}
use Rattle.wsm_semantics.proofs.ShownPanes.{IsPane, each_pane, unshown_of, kind_of, does, firings_are}
use Rattle.wsm_semantics.proofs.FiringsSoFar.{fires_as, not_some}
use Rattle.wsm_semantics.proofs.SessionTimes.{IsOneOf, of-all}
use Rattle.wsm_semantics.proofs.SessionPlaces.{one_of, sessions_of}
use Rattle.wsm_semantics.proofs.SessionStep.{among_places}
use Rattle.wsm_semantics.proofs.EventTurns.{dead_by_record, dead_by_watermark}
use Rattle.wsm_semantics.proofs.KeptLaw as kept_law
use Rattle.wsm_semantics.proofs.KeptLaw.{gap_is_long, relation-up}
use Rattle.wsm_semantics.proofs.WindowEnds.{begins_by}
use Rattle.wsm_semantics.proofs.Given.{map-itself}
use Rattle.wsm_semantics.proofs.Moves.{Own}
use Rattle.wsm_semantics.proofs.Counted.{AllAt, fired_at, is_pane_at, rows_of_panes}
use Rattle.wsm_semantics.proofs.ImageFirings.{Image}
use Rattle.wsm_semantics.proofs.ImageStanding.{Told, Turn, held_alike}
use Rattle.wsm_semantics.proofs.ImageRows.{panes_alike, raises_alike, relation_risen, row_itself, rows_alike}
use Rattle.wsm_semantics.proofs.StepTurns.{turn}
use Rattle.wsm_semantics.proofs.StepImage.{Lacks, begun, image_at, told_at, turn_at}
use Rattle.wsm_semantics.proofs.LaterTurns.{is_new}
use Rattle.wsm_semantics.proofs.LaterFirings.{Serves, WithRoom, lacks_old}

-- ---- windows that are live then

ended_then : (last size l m start end : ℤ) → end ≡ start +ℤ size → start ≤ℤ last → ((last +ℤ size) +ℤ l) ≤ℤ m → int_lt m (end +ℤ l) ≡ true → ⊥
ended_then last size l m start end is by settled live = grind (arith, ints)

begins : (period k x size l m start end : ℤ) → pos 1 ≤ℤ period → start ≡ k *ℤ period → end ≡ start +ℤ size → ((last_start period x +ℤ size) +ℤ l) ≤ℤ m → int_lt m (end +ℤ l) ≡ true → int_lt x start ≡ true
begins period k x size l m start end long on is settled live =
    elim (int_lt x start) as (λ b. int_lt x start ≡ b → b ≡ true) [
      | true ↦ λ _. refl
      | false ↦ λ sooner.
          let by : start ≤ℤ last_start period x = subst (λ (s : ℤ). s ≤ℤ last_start period x) (sym on) (begins_by period k x long (subst (λ (s : ℤ). s ≤ℤ x) on (no_less x start sooner))) in
          absurd (ended_then (last_start period x) size l m start end is by settled live)
    ] refl

over : (x gap l m end : ℤ) → ((x +ℤ gap) +ℤ l) ≤ℤ m → int_lt m (end +ℤ l) ≡ true → int_le end (x +ℤ gap) ≡ true → ⊥
over x gap l m end settled live ended = grind (arith, ints)

module _ (q : Query) (ok : IsShape q.shape) (x : Times) (past : List Event) (p : Place) (placed : among p (places q past) ≡ true) (m : ℤ) (settled : IsSettled q x m) (live : is_live_at q m p ≡ true) where
  by_grid : (shape : Shape) → q.shape ≡ shape → IsAssigned shape → int_lt (x p.key) p.start ≡ true
  by_grid (Fixed size) is assigned =
      let (u, grid) = grid_of q ok (subst IsAssigned (sym is) assigned) past p placed in
      let on : IsWindowOfShape (Fixed size) u (window_of p) = subst (λ (s : Shape). IsWindowOfShape s u (window_of p)) is grid in
      begins size on.k (x p.key) size q.clock.lateness m p.start p.end (subst (λ (s : Shape). pos 1 ≤ℤ period_of s) is ok.period_low) on.start on.end (subst (λ (s : Shape). (last_end s (x p.key) +ℤ q.clock.lateness) ≤ℤ m) is (settled p.key)) live
  by_grid (Sliding size period) is assigned =
      let (u, grid) = grid_of q ok (subst IsAssigned (sym is) assigned) past p placed in
      let on : IsWindowOfShape (Sliding size period) u (window_of p) = subst (λ (s : Shape). IsWindowOfShape s u (window_of p)) is grid in
      begins period on.k (x p.key) size q.clock.lateness m p.start p.end (subst (λ (s : Shape). pos 1 ≤ℤ period_of s) is ok.period_low) on.start on.end (subst (λ (s : Shape). (last_end s (x p.key) +ℤ q.clock.lateness) ≤ℤ m) is (settled p.key)) live
  by_grid (Session gap) is assigned = absurd assigned

  pub live_after : HasNoSessions q → is_after q x p ≡ true
  live_after none = of_shape q.shape refl where
    of_shape : (shape : Shape) → q.shape ≡ shape → begins_after q.shape (x p.key) p.start ≡ true
    of_shape (Fixed size) is = ap (λ (s : Shape). begins_after s (x p.key) p.start) is ∙ by_grid (Fixed size) is tt
    of_shape (Sliding size period) is = ap (λ (s : Shape). begins_after s (x p.key) p.start) is ∙ by_grid (Sliding size period) is tt
    of_shape (Session gap) is = absurd (none gap is)

  pub live_beyond : PartsNoSession q x past → is_beyond x p ≡ true
  live_beyond parts = of_shape q.shape refl where
    of_shape : (shape : Shape) → q.shape ≡ shape → int_lt (x p.key) p.start ≡ true
    of_shape (Fixed size) is = by_grid (Fixed size) is tt
    of_shape (Sliding size period) is = by_grid (Sliding size period) is tt
    of_shape (Session gap) is =
        let long : pos 1 ≤ℤ gap = gap_is_long q gap is ok in
        let one : IsOneOf (window_of p) (sessions_of gap (selected q past) p.key) = one_of p p.key (sessions_of gap (selected q past) p.key) (sym (among_places q gap is long past p) ∙ placed) in
        let beside : is_beside gap (x p.key) (window_of p) ≡ true = of-all (λ w. is_beside gap (x p.key) w ≡ true) (window_of p) (sessions_of gap (selected q past) p.key) (parts gap is p.key) one in
        ⊎_elim (λ begun. begun)
        (λ ended. absurd (over (x p.key) gap q.clock.lateness m p.end (subst (λ (s : Shape). (last_end s (x p.key) +ℤ q.clock.lateness) ≤ℤ m) is (settled p.key)) live ended))
        (or_cases (int_lt (x p.key) p.start) (int_le p.end (x p.key +ℤ gap)) beside)

-- ---- one history

-- where all that is live at a mark begins late enough
abbrev pub LiveLate : Query → (Place → Bool) → ℤ → List Event → Type 0
LiveLate q late w past = (p : Place) → among p (places q past) ≡ true → is_live_at q w p ≡ true → late p ≡ true

module _ (q : Query) (late : Place → Bool) (past : List Event) (w : ℤ) (live : LiveLate q late w past) where
  pub live_late : filter (is_pane_at late) (filter (λ y. is_live_at q w y.0) (panes q past)) ≡ filter (λ y. is_live_at q w y.0) (panes q past)
  live_late =
      all_of (is_pane_at late) (filter (λ y. is_live_at q w y.0) (panes q past))
      (all-passed (IsPane q past) (λ y. late y.0 ≡ true) (λ y. is_live_at q w y.0) (λ y is lives. live y.0 is.1 lives) (panes q past) (each_pane q past))

module _ (q : Query) (ok : IsShape q.shape) (timely : SessionsByEvent q) (low : pos 0 ≤ℤ q.clock.lateness) (late : Place → Bool) (past : List Event) (e : Event) (live : LiveLate q late (mark q past) (e ∷ past)) where
  fired_late : (y : Place × List Datum) → IsPane q (e ∷ past) y → (g : Firing) → does q past e y ≡ Some g → fired_at late g ≡ true
  fired_late y is g h =
      ap late (fires_as q past e y.0 y.1 g h).place
      ∙ elim (is_live_at q (mark q past) y.0) as (λ b. is_live_at q (mark q past) y.0 ≡ b → late y.0 ≡ true) [
        | true ↦ λ lives. live y.0 is.1 lives
        | false ↦ λ gone. absurd (not_some g (sym h ∙ ap (firing_of (length past) y.0 y.1 (firing_set q.mode y.1 (unshown_of q past y.0 y.1))) (dead e y is gone)))
      ] refl
    where
      -- a pane that isn't live fires nothing
      dead : (e : Event) (y : Place × List Datum) → IsPane q (e ∷ past) y → is_live_at q (mark q past) y.0 ≡ false → kind_of q past e y.0 y.1 ≡ None
      dead =
          by_effect q past (λ e _. (y : Place × List Datum) → IsPane q (e ∷ past) y → is_live_at q (mark q past) y.0 ≡ false → kind_of q past e y.0 y.1 ≡ None)
          (λ k t vs taken selects y is h. dead_by_record q low timely (kept_law.places q ok timely) past (kept_law.enters q ok timely) k t vs taken selects y is h)
          (λ o t _ y is h. dead_by_watermark q low timely (kept_law.places q ok timely) past o t y is h)
          (λ e does_none y is h. ap (λ z. kind_on q z y.0 y.1 (unshown_of q past y.0 y.1)) does_none)

  pub all_late : LiveLate q late (mark q past) past → AllAt q late past e
  all_late before = record {
    held = live_late q late past (mark q past) before;
    before_drops = live_late q late (e ∷ past) (mark q past) live;
    firings = all_of (fired_at late) (firings q past e)
        (subst (AllByRecursion (λ g. fired_at late g ≡ true)) (sym (firings_are q past e))
        (filter_map-all (IsPane q (e ∷ past)) (λ g. fired_at late g ≡ true) (does q past e) fired_late (panes q (e ∷ past)) (each_pane q (e ∷ past))));
  }

-- ---- two histories

-- what is live once the times are settled begins late enough, in both
pub record LateOnceSettled (q : Query) (start records : ℤ) (x : Times) (late : Place → Bool) (May : List Step → Type 0) (older other : List Event) : Type 0 where
  pub first : (steps : List Step) → May steps → (m : ℤ) → IsSettled q x m → LiveLate q late m (whole steps older)
  pub second : (steps : List Step) → May steps → (m : ℤ) → IsSettled q x m → LiveLate (begun_at start records q) late m (rest steps other)

module _ (q : Query) (ok : IsShape q.shape) (timely : SessionsByEvent q) (low : pos 0 ≤ℤ q.clock.lateness) (start records : ℤ) (x : Times) (late : Place → Bool) (May : List Step → Type 0) (older other : List Event) (longer : ℕ)
    (serves : Serves q start records x late May older other longer) (live : LateOnceSettled q start records x late May older other) where
  abbrev anew : Query
  anew = begun_at start records q

  abbrev o : Own
  o = begun q start records

  abbrev MayHere : List Step → Type 0
  MayHere = WithRoom q start records May older other

  lacks : Lacks q start records late (is_new x) MayHere older other longer
  lacks = lacks_old q ok timely start records x late May older other longer serves

  abbrev here : List Step → Image q o
  here steps = image_at q start records late (is_new x) MayHere older other longer lacks steps

  module _ (steps : List Step) (may : MayHere steps) (settled : IsSettled q x (mark q (whole steps older))) where
    abbrev told : Told q o (here steps) (whole steps older) (rest steps other)
    told = told_at q start records late (is_new x) MayHere older other longer lacks steps may

    live_first : LiveLate q late (mark q (whole steps older)) (whole steps older)
    live_first = live.first steps may.0 (mark q (whole steps older)) settled

    live_second : LiveLate anew late (mark anew (rest steps other)) (rest steps other)
    live_second = live.second steps may.0 (mark anew (rest steps other)) (subst (IsSettled q x) (sym told.marks) settled)

    pub held_settled : held q (whole steps older) ≡ map (pane_at (turn older other longer steps)) (held anew (rest steps other))
    held_settled =
        sym (live_late q late (whole steps older) (mark q (whole steps older)) live_first)
        ∙ held_alike q o (here steps) (whole steps older) (rest steps other) told
        ∙ ap (map (pane_at (turn older other longer steps))) (live_late anew late (rest steps other) (mark anew (rest steps other)) live_second)

  -- ---- an event that both have

  module _ (steps : List Step) (e : Event) (may : MayHere (Stays e ∷ steps)) (settled : IsSettled q x (mark q (whole steps older))) where
    abbrev H : List Event
    H = whole steps older

    abbrev R : List Event
    R = rest steps other

    abbrev may_before : MayHere steps
    may_before = lacks.stays e steps may

    both : Turn q o (here steps) H R e e
    both = turn_at q start records late (is_new x) MayHere older other longer lacks e steps may

    all : AllAt q late H e
    all = all_late q ok timely low late H e (live.first (Stays e ∷ steps) may.0 (mark q H) settled) (live_first steps may_before settled)

    all_anew : AllAt anew late R e
    all_anew = all_late anew ok timely low late R e (live.second (Stays e ∷ steps) may.0 (mark anew R) (subst (IsSettled q x) (sym both.before.marks) settled)) (live_second steps may_before settled)

    firings_settled : firings q H e ≡ map (firing_at (turn older other longer steps)) (firings anew R e)
    firings_settled = sym all.firings ∙ both.fired ∙ ap (map (firing_at (turn older other longer steps))) all_anew.firings

    module _ (ignores : IgnoresTurns q) where
      rows_settled : q.form ≡ Panes → turn_rows q H e ≡ turn_rows anew R e
      rows_settled panes_alone =
          rows_of_panes q panes_alone H e
          ∙ panes_alike q o (here steps) (ignores (turn older other longer steps)) H R e e both all all_anew
          ∙ map-itself (row_by (λ key. key)) row_itself (retract_rows q.mode anew R e ++ pane_rows anew R e)
          ∙ sym (rows_of_panes anew panes_alone R e)

      relation_settled : raises q H e ≡ true → relation q (e ∷ H) ≡ relation anew (e ∷ R)
      relation_settled up =
          relation-up q H e up
          ∙ relation_risen q o (here steps) (ignores (turn older other longer steps)) H R e e both all all_anew up
          ∙ sym (relation-up anew R e (sym (raises_alike q o (here steps) H R e e both) ∙ up))

      -- the rows of streams, where the relation was the same before
      streams_settled : relation q H ≡ relation anew R → turn_rows q H e ≡ turn_rows anew R e
      streams_settled was =
          rows_alike q o (here steps) (ignores (turn older other longer steps)) H R e e both all all_anew was
          ∙ map-itself (row_by (λ key. key)) row_itself (turn_rows anew R e)

  pub same_once_settled : IgnoresTurns q → SameOnceSettled May q start records x older other longer
  same_once_settled ignores = record {
    held = λ steps may rooms settled. held_settled steps (may, rooms) settled;
    firings = λ steps e may rooms settled. firings_settled steps e (may, rooms) settled;
    rows = λ panes_alone steps e may rooms settled. rows_settled steps e (may, rooms) settled ignores panes_alone;
    streams = λ steps e may rooms settled was. streams_settled steps e (may, rooms) settled ignores was;
    relation = λ steps e may rooms settled raised. relation_settled steps e (may, rooms) settled ignores raised;
  }
