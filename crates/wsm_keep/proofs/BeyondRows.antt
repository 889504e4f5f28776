-- Where a time parts no session, records that came up to it may be left out for all rows of sessions beyond it, and then no other
-- rows are written.
use Rattle.std.proofs.Common.{◌≡◌, ℕ, Bool, true, false, ◌&&◌, cond, List, [], ◌∷◌, ◌++◌, map, length, ℤ, Some, None, refl, sym, ap, subst, ◌∙◌, append-nil}
use Rattle.std.proofs.lemmas.Bool.{eqb-true}
use Rattle.std.specs.Prelude.{int_lt, nat_eq}
use Rattle.std.specs.List.{AllByRecursion}
use Rattle.wsm_record.specs.declared.words.Form.TheVariants.{Panes}
use Rattle.wsm_record.specs.Event.{Event, Record, Watermark}
use Rattle.wsm_windows.specs.declared.window.Window.{Window}
use Rattle.wsm_windows.specs.declared.window.Shape.TheVariants.{Session}
use Rattle.wsm_windows.specs.declared.place.Place.{Place}
use Rattle.wsm_windows.specs.Places.{window_of}
use Rattle.wsm_windows.specs.Windows.{IsShape}
use Rattle.wsm_semantics.specs.Query.{Datum, Selects, Nothing, Query, SessionsByEvent, datum, is_taken, mark, selected, selection, selection_of}
use Rattle.wsm_semantics.specs.Panes.{of_key}
use Rattle.wsm_semantics.specs.Relation.{turn_rows}
use Rattle.wsm_semantics.specs.ByKey.{HasRoom, IgnoresTurns}
use Rattle.wsm_semantics.specs.FromWatermark.{Goes, MayLeaveOut, PartsNoSession, Stays, Step, Times, is_beyond, is_row_at, rest, whole}
use Rattle.wsm_semantics.specs.LastingRows.{rows_so_far}
use Rattle.wsm_semantics.proofs.Each.{all-after, filter-append}
use Rattle.wsm_semantics.proofs.Effects.{selects_none}
use Rattle.wsm_semantics.proofs.KeptLaw.{gap_is_long}
use Rattle.wsm_semantics.proofs.Counted.{Owns, all_at, fired_at, turn_rows_all}
use Rattle.wsm_semantics.proofs.LaterFirings.{Serves, WithRoom, lacks_old}
use Rattle.wsm_semantics.proofs.LaterLaw.{beyond_serves, both_empty}
use Rattle.wsm_semantics.proofs.LaterParts.{rest_parted}
use Rattle.wsm_semantics.proofs.LaterTurns.{is_new}
use Rattle.wsm_semantics.proofs.NeededMarks.{later, steps_of, later_room, steps_out, steps_whole}
use Rattle.wsm_semantics.proofs.StepImage.{Lacks}
use Rattle.wsm_semantics.proofs.StepRows.{turn_rows_go, turn_rows_stay}
use Rattle.wsm_semantics.proofs.SessionPlaces.{one_of, sessions_of}
use Rattle.wsm_semantics.proofs.SessionStep.{among_places}
use Rattle.wsm_semantics.proofs.SessionTimes.{IsOneOf}
use Rattle.wsm_semantics.proofs.ShownPanes.{IsPane}
use Rattle.wsm_keep.specs.WrittenBeyond.{rows_beyond}
use Rattle.wsm_keep.proofs.BeyondTimes.{begin_later, one_later}
use Rattle.wsm_keep.proofs.StandsBeyond.{stands_beyond, stands_early}

-- ---- rows of later records

module _ (q : Query) (gap : ℤ) (is : q.shape ≡ Session gap) (ok : IsShape q.shape) (x : Times) where
  abbrev IsLater : Datum → Type 0
  IsLater d = int_lt (x d.key) d.time ≡ true

  abbrev AllLater : List Event → Type 0
  AllLater past = AllByRecursion IsLater (selected q past)

  times_later : (key : ℕ) (ds : List Datum) → AllByRecursion IsLater ds → AllByRecursion (λ t. int_lt (x key) t ≡ true) (map (λ (d : Datum). d.time) (of_key key ds))
  times_later key [] h = tt
  times_later key (d ∷ ds) h =
      elim (nat_eq d.key key) as (λ b. nat_eq d.key key ≡ b → AllByRecursion (λ t. int_lt (x key) t ≡ true) (map (λ (d : Datum). d.time) (cond b (d ∷ of_key key ds) (of_key key ds)))) [
        | true ↦ λ own. (subst (λ (k : ℕ). int_lt (x k) d.time ≡ true) (eqb-true d.key key own) h.0, times_later key ds h.1)
        | false ↦ λ _. times_later key ds h.1
      ] refl

  pane_later : (past : List Event) → AllLater past → (e : Place × List Datum) → IsPane q past e → is_beyond x e.0 ≡ true
  pane_later past all e pane =
      let p : Place = e.0 in
      let ws : List Window = sessions_of gap (selected q past) p.key in
      let one : IsOneOf (window_of p) ws = one_of p p.key ws (sym (among_places q gap is (gap_is_long q gap is ok) past p) ∙ pane.1) in
      one_later gap (x p.key) (window_of p) ws one (begin_later gap (x p.key) (map (λ (d : Datum). d.time) (of_key p.key (selected q past))) (times_later p.key (selected q past) all))

  module _ (form : q.form ≡ Panes) (timely : SessionsByEvent q) where
    abbrev beyond : Place → Bool
    beyond = is_beyond x

    rows_later : (past : List Event) (e : Event) → AllLater (e ∷ past) → rows_beyond x (turn_rows q past e) ≡ turn_rows q past e
    rows_later past e all =
        let here = pane_later past (all-after IsLater (selection_of q past e) (selected q past) all) in
        let next = pane_later (e ∷ past) all in
        turn_rows_all q beyond past e (all_at q beyond past e here next) form (λ _. (
          λ y pane g h. stands_beyond q gap is ok timely x past y pane (here y pane) g h ∙ sym (here y pane),
          λ y pane g h. stands_beyond q gap is ok timely x (e ∷ past) y pane (next y pane) g h ∙ sym (next y pane),
        ))

    -- ---- the later records alone

    abbrev alone : List Event → List Event
    alone past = later q x past

    later_selected : (past : List Event) → AllLater (alone past)
    later_selected [] = tt
    later_selected (Record None t vs ∷ past) = later_selected past
    later_selected (Record (Some k) t vs ∷ past) =
        let e : Event = Record (Some k) t vs in
        let some : List Event = alone past in
        elim (int_lt (x k) t) as (λ b. int_lt (x k) t ≡ b → AllLater (rest (cond b (Stays e) (Goes e) ∷ steps_of q x past) [])) [
          | true ↦ λ h. elim (is_taken q some e && q.selects k vs) as (λ c. AllByRecursion IsLater (selection (cond c (Selects (datum (length some) (mark q some) k t vs)) Nothing) ++ selected q some)) [
            | true ↦ (h, later_selected past)
            | false ↦ later_selected past
          ]
          | false ↦ λ _. later_selected past
        ] refl
    later_selected (Watermark o t ∷ past) =
        subst (AllByRecursion IsLater) (sym (ap (λ (ds : List Datum). ds ++ selected q (alone past)) (selects_none q (alone past) o t))) (later_selected past)

    -- so no other rows are written
    all_beyond : (past : List Event) → AllLater past → rows_beyond x (rows_so_far q past) ≡ rows_so_far q past
    all_beyond [] all = refl
    all_beyond (e ∷ past) all =
        filter-append (is_row_at (is_beyond x)) (rows_so_far q past) (turn_rows q past e)
        ∙ (λ i. all_beyond past (all-after IsLater (selection_of q past e) (selected q past) all) i ++ rows_later past e all i)

    -- ---- in the place of the whole

    module _ (ignores : IgnoresTurns q) where
      abbrev May : List Step → Type 0
      May steps = MayLeaveOut q q.clock.start q.clock.records x steps

      serves : Serves q q.clock.start q.clock.records x beyond May [] [] 0
      serves = beyond_serves q ok q.clock.records x

      abbrev MayHere : List Step → Type 0
      MayHere = WithRoom q q.clock.start q.clock.records May [] []

      lacks : Lacks q q.clock.start q.clock.records beyond (is_new x) MayHere [] [] 0
      lacks = lacks_old q ok timely q.clock.start q.clock.records x beyond May [] [] 0 serves

      -- what stands for a session begins beyond the time where the session does
      owns : (past : List Event) → PartsNoSession q x past → Owns q beyond past
      owns past parts y pane g h =
          elim (beyond y.0) as (λ b. beyond y.0 ≡ b → fired_at beyond g ≡ b) [
            | true ↦ λ here. stands_beyond q gap is ok timely x past y pane here g h
            | false ↦ λ early. stands_early q gap is ok timely x past y pane parts early g h
          ] refl

      rest_owns : (steps : List Step) → May steps → Owns q beyond (rest steps [])
      rest_owns steps may = owns (rest steps []) (rest_parted q ok q.clock.start q.clock.records x (both_empty q q.clock.records x) steps may.0 may.2 may.1)

      -- a record that is left out writes none of these
      gone : (steps : List Step) (e : Event) → May (Goes e ∷ steps) → rows_beyond x (turn_rows q (whole steps []) e) ≡ []
      gone steps e may = turn_rows_go q q.clock.start q.clock.records beyond (is_new x) MayHere [] [] 0 lacks e steps (may, may.2) form (λ _. (owns (whole steps []) (serves.goes e steps may).1, owns (e ∷ whole steps []) may.1))

      -- and one that stays the same
      stays : (steps : List Step) (e : Event) → May (Stays e ∷ steps) → rows_beyond x (turn_rows q (whole steps []) e) ≡ rows_beyond x (turn_rows q (rest steps []) e)
      stays steps e may =
          let before : May steps = serves.stays e steps may in
          turn_rows_stay q q.clock.start q.clock.records beyond (is_new x) MayHere [] [] 0 lacks e steps ignores (may, may.2) form
          (λ _. (owns (whole steps []) before.1, owns (e ∷ whole steps []) may.1)) (λ _. (rest_owns steps before, rest_owns (Stays e ∷ steps) may))

      by_steps : (steps : List Step) → May steps → rows_beyond x (rows_so_far q (whole steps [])) ≡ rows_beyond x (rows_so_far q (rest steps []))
      by_steps [] may = refl
      by_steps (Stays e ∷ steps) may =
          filter-append (is_row_at (is_beyond x)) (rows_so_far q (whole steps [])) (turn_rows q (whole steps []) e)
          ∙ (λ i. by_steps steps (serves.stays e steps may) i ++ stays steps e may i)
          ∙ sym (filter-append (is_row_at (is_beyond x)) (rows_so_far q (rest steps [])) (turn_rows q (rest steps []) e))
      by_steps (Goes e ∷ steps) may =
          filter-append (is_row_at (is_beyond x)) (rows_so_far q (whole steps [])) (turn_rows q (whole steps []) e)
          ∙ (λ i. by_steps steps (serves.goes e steps may) i ++ gone steps e may i)
          ∙ append-nil (rows_beyond x (rows_so_far q (rest steps [])))

      pub beyond_alone : (past : List Event) → HasRoom q past → PartsNoSession q x past → rows_beyond x (rows_so_far q past) ≡ rows_so_far q (later q x past)
      beyond_alone past room none =
          let steps : List Step = steps_of q x past in
          let is : whole steps [] ≡ past = steps_whole q x past in
          sym (ap (λ (es : List Event). rows_beyond x (rows_so_far q es)) is)
          ∙ by_steps steps (steps_out q x past, subst (PartsNoSession q x) (sym is) none, (subst (HasRoom q) (sym is) room, later_room q x past room))
          ∙ all_beyond (later q x past) (later_selected past)
