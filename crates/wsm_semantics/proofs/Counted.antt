-- Of one history the panes at some places alone, and what these fire, stand for and withdraw: where they hang on some of the
-- records, and where firings at such places alone tell of them.
use Rattle.std.proofs.Common.{◌≡◌, ℕ, Bool, true, false, ◌&&◌, cond, not, List, [], ◌∷◌, ◌++◌, map, length, ℤ, Option, Some, None, refl, sym, ap, ◌∙◌}
use Rattle.std.proofs.lemmas.Bool.{and_parts}
use Rattle.std.proofs.lemmas.Option.{same_Some}
use Rattle.std.specs.Prelude.{filter, filter_map, nat_eq, option_map}
use Rattle.std.specs.List.{AllByRecursion, cons_option, list_any}
use Rattle.std.specs.Ordering.{eq_by_cmp}
use Rattle.std.specs.FinMap.Entries.{same_entries, find-where_key, is_sorted-where_key, find as find_in}
use Rattle.wsm_record.specs.declared.event.Value.{Value}
use Rattle.wsm_record.specs.declared.cell.Cell.{Cell}
use Rattle.wsm_record.specs.declared.words.Form.{Form}
use Rattle.wsm_record.specs.declared.words.Form.TheVariants.{Panes}
use Rattle.wsm_record.specs.declared.words.Mode.{Mode}
use Rattle.wsm_record.specs.declared.words.Mode.TheVariants.{Discarding, Accumulating, Retracting}
use Rattle.wsm_record.specs.Event.{Event, Record}
use Rattle.wsm_windows.specs.declared.place.Place.{Place}
use Rattle.wsm_windows.specs.Places.{place_cmp, window_of}
use Rattle.wsm_windows.proofs.Places.{places_total, places_exact, tie_is}
use Rattle.wsm_semantics.specs.declared.out_row.OutRow.{OutRow}
use Rattle.wsm_semantics.specs.declared.out_row.OutRow.TheVariants.{Pane}
use Rattle.wsm_semantics.specs.Query.{Datum, Query, mark, selected, selection_of}
use Rattle.wsm_semantics.specs.Panes.{is_there, is_live_at, places, panes, contents, held}
use Rattle.wsm_semantics.specs.Firings.{Firing, firings, firings_so_far, firing_of, firing_set, holds, is_shown, kind_on, kind_on_record, row_of, pane_rows, shows}
use Rattle.wsm_semantics.specs.StandingFirings.{is_within, candidates, holds_all, standing}
use Rattle.wsm_semantics.specs.Retractions.{standing_for, panes_before_drops, is_same, withdrawn, written_of, by_place, retract_row, retracted, retract_rows}
use Rattle.wsm_semantics.specs.Relation.{chosen_rows, streamed, turn_rows}
use Rattle.wsm_semantics.specs.FromWatermark.{is_row_at}
use Rattle.wsm_semantics.proofs.Lists.{filter-all, all-each, filter_within}
use Rattle.wsm_semantics.proofs.Tables.{among, find-with_contents, is_sorted-with_contents}
use Rattle.wsm_semantics.proofs.Each.{passed, all-any, all_of, filter-each, filter-map, filter-append, filter_swap}
use Rattle.wsm_semantics.proofs.Effects.{by_record}
use Rattle.wsm_semantics.proofs.PanesOrder.{contents_of, panes_of}
use Rattle.wsm_semantics.proofs.ShownPanes.{IsPane, each_pane, unshown_of, does, firings_are, contents_below}
use Rattle.wsm_semantics.proofs.FiringsSoFar.{fires_as, not_some}
use Rattle.wsm_semantics.proofs.KeptTurns.{none_of_turn}
use Rattle.wsm_semantics.proofs.Homes.{shown_by_all}
use Rattle.wsm_semantics.proofs.Given.{filter-known, filter-given, filter-any, last_holds, list_any-wider}
use Rattle.wsm_semantics.proofs.MovedPanes.{placed}
use Rattle.wsm_semantics.proofs.WrittenOrder.{Written, filter-by_place}

-- a firing at one of some places
abbrev pub fired_at : (Place → Bool) → Firing → Bool
fired_at late g = late g.place

-- a pane at one of them
abbrev pub is_pane_at : (Place → Bool) → Place × List Datum → Bool
is_pane_at late y = late y.0

-- a record that stands at one of them passes a test
abbrev pub StandNew : Query → (Place → Bool) → (Datum → Bool) → Type 0
StandNew q late new = (p : Place) → late p ≡ true → (d : Datum) → is_there q p d ≡ true → new d ≡ true

-- they are places of the records that pass it alone
abbrev pub Covers : Query → (Place → Bool) → (Datum → Bool) → List Datum → Type 0
Covers q late new ds = (p : Place) → late p ≡ true → among p (placed q.shape q.clock.lateness (filter new ds) (filter new ds)) ≡ among p (placed q.shape q.clock.lateness ds ds)

-- firings at such places alone tell which records of such a pane were shown, and which firing may stand for it
pub record Finds (q : Query) (late : Place → Bool) : Type 0 where
  pub shown : (past : List Event) (e : Event) (p : Place) → late p ≡ true → among p (places q (e ∷ past)) ≡ true →
      AllByRecursion (λ d. is_shown q past p d ≡ list_any (λ f. shows q.shape p f.place && holds d f.contents) (filter (fired_at late) (firings_so_far q past))) (contents q (e ∷ past) p)
  pub standing : (past : List Event) (p : Place) (all : List Datum) → late p ≡ true → among p (places q past) ≡ true → all ≡ contents q past p →
      candidates q p all (firings_so_far q past) ≡ candidates q p all (filter (fired_at late) (firings_so_far q past))

-- where no other shows them
pub finds_own : (q : Query) (late : Place → Bool) → ((p r : Place) → late p ≡ true → shows q.shape p r ≡ true → late r ≡ true) → Finds q late
finds_own q late own = record {
  shown = λ past e p here _.
      all-any (λ d. is_shown q past p d ≡ list_any (λ f. shows q.shape p f.place && holds d f.contents) (filter (fired_at late) (firings_so_far q past)))
      (λ d. shown_by_all q past p d ∙ list_any-wider (λ f. shows q.shape p f.place && holds d f.contents) (fired_at late) (λ f h. own p f.place here (and_parts _ _ h).0) (firings_so_far q past))
      (contents q (e ∷ past) p);
  standing = λ past p all here _ _. sym (filter_within (λ f. shows q.shape p f.place && is_within f.contents all) (fired_at late) (λ f h. own p f.place here (and_parts _ _ h).0) (firings_so_far q past));
}

-- what stands for a place shows it
stands_showing : (q : Query) (fs : List Firing) (p : Place) (all : List Datum) (g : Firing) → standing q fs p all ≡ Some g → shows q.shape p g.place ≡ true
stands_showing q fs p all g h =
    let cs : List Firing = candidates q p all fs in
    let Shows : Firing → Type 0 = λ g. shows q.shape p g.place ≡ true in
    last_holds Shows None (filter (holds_all cs) cs) g (λ x none. absurd (not_some x (sym none)))
    (filter-all Shows (holds_all cs) cs (all-each (λ g. (shows q.shape p g.place && is_within g.contents all) ≡ true) Shows cs (λ g k. (and_parts _ _ k).0) (passed (λ g. shows q.shape p g.place && is_within g.contents all) fs))) h

-- the rows of a turn, where they are of panes
pub rows_of_panes : (q : Query) → q.form ≡ Panes → (past : List Event) (e : Event) → turn_rows q past e ≡ retract_rows q.mode q past e ++ pane_rows q past e
rows_of_panes q panes past e = ap (λ (form : Form). chosen_rows form (retract_rows q.mode q past e ++ pane_rows q past e) (streamed q past e)) panes

module _ (q : Query) (late : Place → Bool) where
  -- ---- panes by some records

  module _ (new : Datum → Bool) (there : StandNew q late new) where
    pub panes_new : (ds : List Datum) → Covers q late new ds → filter (is_pane_at late) (panes_of q ds) ≡ filter (is_pane_at late) (panes_of q (filter new ds))
    panes_new ds covers =
        let es : List Datum = filter new ds in
        same_entries place_cmp places_total places_exact (filter (is_pane_at late) (panes_of q ds)) (filter (is_pane_at late) (panes_of q es))
        (is_sorted-where_key place_cmp late (panes_of q ds) (is_sorted-with_contents (contents_of q ds) (placed q.shape q.clock.lateness ds ds)))
        (is_sorted-where_key place_cmp late (panes_of q es) (is_sorted-with_contents (contents_of q es) (placed q.shape q.clock.lateness es es)))
        (λ p.
        find p ds
        ∙ elim (late p) as (λ b. late p ≡ b → cond b (entry p ds) None ≡ cond b (entry p es) None) [
          | true ↦ λ h. sym (λ i. cond (covers p h i) (Some (filter_within (is_there q p) new (there p h) ds i)) None)
          | false ↦ λ _. refl
        ] refl
        ∙ sym (find p es))
      where
        entry : Place → List Datum → Option (List Datum)
        entry p xs = cond (among p (placed q.shape q.clock.lateness xs xs)) (Some (contents_of q xs p)) None

        find : (p : Place) (xs : List Datum) → find_in place_cmp p (filter (is_pane_at late) (panes_of q xs)) ≡ cond (late p) (entry p xs) None
        find p xs =
            find-where_key place_cmp late p (λ r tie. ap late (sym (places_exact p r tie))) (panes_of q xs)
            ∙ ap (λ (e : Option (List Datum)). cond (late p) e None) (find-with_contents (contents_of q xs) p (placed q.shape q.clock.lateness xs xs))

    -- ---- a record that doesn't pass

    module _ (past : List Event) (k : Option ℕ) (t : ℤ) (vs : List Value) (none : filter new (selection_of q past (Record k t vs)) ≡ []) where
      abbrev e : Event
      e = Record k t vs

      none_enter : (p : Place) → late p ≡ true → contents q (e ∷ past) p ≡ contents q past p
      none_enter p here =
          filter-append (is_there q p) (selection_of q past e) (selected q past)
          ∙ ap (λ (ds : List Datum). ds ++ contents q past p) (sym (filter_within (is_there q p) new (there p here) (selection_of q past e)) ∙ ap (filter (is_there q p)) none)

      silent : (y : Place × List Datum) → IsPane q (e ∷ past) y → late y.0 ≡ true → does q past e y ≡ None
      silent y is here =
          let left : List Datum = unshown_of q past y.0 y.1 in
          let not_now : list_any (λ d. nat_eq d.turn (length past)) y.1 ≡ false =
          ap (list_any (λ d. nat_eq d.turn (length past))) (is.0 ∙ none_enter y.0 here) ∙ none_of_turn (length past) (contents q past y.0) (contents_below q past y.0) in
          ap (firing_of (length past) y.0 y.1 (firing_set q.mode y.1 left))
          (by_record q past (λ does. kind_on q does y.0 y.1 left ≡ None) refl (λ _ _ _. ap (λ (b : Bool). cond b (kind_on_record q (mark q past) y.0.end (length left)) None) not_now) k t vs)

  -- ---- what fires

  pub firings_at : (past : List Event) (e : Event) → filter (fired_at late) (firings q past e) ≡ filter_map (does q past e) (filter (is_pane_at late) (panes q (e ∷ past)))
  firings_at past e =
      ap (filter (fired_at late)) (firings_are q past e)
      ∙ filter-given (does q past e) (fired_at late) (is_pane_at late) (λ y g h. ap late (fires_as q past e y.0 y.1 g h).place) (panes q (e ∷ past))

  -- a record that doesn't pass fires nothing
  pub fires_none : (new : Datum → Bool) → StandNew q late new → (past : List Event) (k : Option ℕ) (t : ℤ) (vs : List Value) → filter new (selection_of q past (Record k t vs)) ≡ [] → filter (fired_at late) (firings q past (Record k t vs)) ≡ []
  fires_none new there past k t vs none = firings_at past (Record k t vs) ∙ none_given (panes q (Record k t vs ∷ past)) (each_pane q (Record k t vs ∷ past))
    where
      none_given : (ys : List (Place × List Datum)) → AllByRecursion (IsPane q (Record k t vs ∷ past)) ys → filter_map (does q past (Record k t vs)) (filter (is_pane_at late) ys) ≡ []
      none_given [] each = refl
      none_given (y ∷ ys) each =
          elim (late y.0) as (λ b. late y.0 ≡ b → filter_map (does q past (Record k t vs)) (cond b (y ∷ filter (is_pane_at late) ys) (filter (is_pane_at late) ys)) ≡ []) [
            | true ↦ λ here. ap (λ (o : Option Firing). cons_option o (filter_map (does q past (Record k t vs)) (filter (is_pane_at late) ys))) (silent new there past k t vs none y each.0 here) ∙ none_given ys each.1
            | false ↦ λ _. none_given ys each.1
          ] refl

  -- ---- what is withdrawn

  -- what stands for a pane after a history is at such a place where the pane is
  abbrev pub Owns : List Event → Type 0
  Owns past = (y : Place × List Datum) → IsPane q past y → (g : Firing) → standing q (firings_so_far q past) y.0 y.1 ≡ Some g → fired_at late g ≡ late y.0

  pub owns_shown : ((p r : Place) → shows q.shape p r ≡ true → late r ≡ late p) → (past : List Event) → Owns past
  owns_shown own past y is g h = own y.0 g.place (stands_showing q (firings_so_far q past) y.0 y.1 g h)

  -- those that stood for such panes, and stand for none of them
  abbrev pub gone_at : List Event → Event → List Firing
  gone_at past e = filter (λ g. not (list_any (is_same g) (standing_for q (e ∷ past) (filter (is_pane_at late) (panes_before_drops q past e))))) (standing_for q past (filter (is_pane_at late) (held q past)))

  stand_at : (past : List Event) → Owns past → (w : ℤ) → filter (fired_at late) (standing_for q past (filter (λ y. is_live_at q w y.0) (panes q past))) ≡ standing_for q past (filter (is_pane_at late) (filter (λ y. is_live_at q w y.0) (panes q past)))
  stand_at past owns w =
      filter-known (IsPane q past) (λ y. standing q (firings_so_far q past) y.0 y.1) (fired_at late) (is_pane_at late) (λ y is g h. owns y is g h) (filter (λ y. is_live_at q w y.0) (panes q past))
      (filter-all (IsPane q past) (λ y. is_live_at q w y.0) (panes q past) (each_pane q past))

  pub withdrawn_at : (past : List Event) (e : Event) → Owns past → Owns (e ∷ past) → filter (fired_at late) (withdrawn q past e) ≡ gone_at past e
  withdrawn_at past e owns owns_next =
      let olds : List Firing = standing_for q past (held q past) in
      let news : List Firing = standing_for q (e ∷ past) (panes_before_drops q past e) in
      filter_swap (fired_at late) (λ g. not (list_any (is_same g) news)) olds
      ∙ filter-each (λ g. not (list_any (is_same g) news)) (λ g. not (list_any (is_same g) (filter (fired_at late) news))) (filter (fired_at late) olds)
      (all-each (λ g. fired_at late g ≡ true) (λ g. not (list_any (is_same g) news) ≡ not (list_any (is_same g) (filter (fired_at late) news))) (filter (fired_at late) olds)
      (λ g here. ap not (list_any-wider (is_same g) (fired_at late) (λ h same. ap late (sym (tie_is g.place h.place (and_parts (nat_eq g.turn h.turn) (eq_by_cmp place_cmp g.place h.place) same).1)) ∙ here) news)) (passed (fired_at late) olds))
      ∙ (λ i. filter (λ g. not (list_any (is_same g) (stand_at (e ∷ past) owns_next (mark q past) i))) (stand_at past owns (mark q past) i))

  -- ---- its rows

  abbrev pub pane_rows_at : List Event → Event → List OutRow
  pane_rows_at past e = filter_map (row_of q) (filter (fired_at late) (firings q past e))

  abbrev pub retract_rows_at : Mode → List Event → Event → List OutRow
  retract_rows_at Discarding past e = []
  retract_rows_at Accumulating past e = []
  retract_rows_at Retracting past e = retracted (filter_map (written_of q) (gone_at past e))

  by_columns : {B : Type 0} (t : B → Bool) (make : List Cell → B) (b : Bool) → ((columns : List Cell) → t (make columns) ≡ b) → (o : Option (List Cell)) (y : B) → option_map make o ≡ Some y → t y ≡ b
  by_columns t make b same None y h = absurd (not_some y (sym h))
  by_columns t make b same (Some columns) y h = ap t (sym (same_Some (make columns) y h)) ∙ same columns

  pub pane_rows-at : (past : List Event) (e : Event) → filter (is_row_at late) (pane_rows q past e) ≡ pane_rows_at past e
  pane_rows-at past e =
      filter-given (row_of q) (is_row_at late) (fired_at late) (λ g y h. by_columns (is_row_at late) (Pane g.kind g.place.key (window_of g.place)) (late g.place) (λ columns. refl) (q.row g.place.key g.fired) y h) (firings q past e)

  pub retract_rows-at : (past : List Event) (e : Event) (mode : Mode) → (mode ≡ Retracting → Owns past × Owns (e ∷ past)) → filter (is_row_at late) (retract_rows mode q past e) ≡ retract_rows_at mode past e
  retract_rows-at past e Discarding owns = refl
  retract_rows-at past e Accumulating owns = refl
  retract_rows-at past e Retracting owns =
      let ws : List Written = filter_map (written_of q) (withdrawn q past e) in
      filter-map retract_row (is_row_at late) (by_place ws)
      ∙ ap (map retract_row) (filter-by_place (λ w. late w.0) ws ∙ ap by_place (
      filter-given (written_of q) (λ w. late w.0) (fired_at late) (λ g y h. by_columns (λ (w : Written). late w.0) (λ columns. (g.place, columns)) (late g.place) (λ columns. refl) (q.row g.place.key g.fired) y h) (withdrawn q past e)
      ∙ ap (filter_map (written_of q)) (withdrawn_at past e (owns refl).0 (owns refl).1)))

  -- ---- the rows of a turn

  pub turn_rows-at : q.form ≡ Panes → (past : List Event) (e : Event) → (q.mode ≡ Retracting → Owns past × Owns (e ∷ past)) → filter (is_row_at late) (turn_rows q past e) ≡ retract_rows_at q.mode past e ++ pane_rows_at past e
  turn_rows-at panes past e owns =
      ap (filter (is_row_at late)) (rows_of_panes q panes past e)
      ∙ filter-append (is_row_at late) (retract_rows q.mode q past e) (pane_rows q past e)
      ∙ (λ i. retract_rows-at past e q.mode owns i ++ pane_rows-at past e i)

-- ---- where all are at such places

pub record AllAt (q : Query) (late : Place → Bool) (past : List Event) (e : Event) : Type 0 where
  pub held : filter (is_pane_at late) (held q past) ≡ held q past
  pub before_drops : filter (is_pane_at late) (panes_before_drops q past e) ≡ panes_before_drops q past e
  pub firings : filter (fired_at late) (firings q past e) ≡ firings q past e

pub anywhere : (q : Query) (past : List Event) (e : Event) → AllAt q (λ _. true) past e
anywhere q past e = record { held = filter-any (held q past); before_drops = filter-any (panes_before_drops q past e); firings = filter-any (firings q past e) }

module _ (q : Query) (late : Place → Bool) (past : List Event) (e : Event) (all : AllAt q late past e) where
  pub withdrawn_all : gone_at q late past e ≡ withdrawn q past e
  withdrawn_all = λ i. filter (λ g. not (list_any (is_same g) (standing_for q (e ∷ past) (all.before_drops i)))) (standing_for q past (all.held i))

  retract_all : (mode : Mode) → retract_rows_at q late mode past e ≡ retract_rows mode q past e
  retract_all Discarding = refl
  retract_all Accumulating = refl
  retract_all Retracting = ap (λ (fs : List Firing). retracted (filter_map (written_of q) fs)) withdrawn_all

  pub rows_all : retract_rows_at q late q.mode past e ++ pane_rows_at q late past e ≡ retract_rows q.mode q past e ++ pane_rows q past e
  rows_all = λ i. retract_all q.mode i ++ filter_map (row_of q) (all.firings i)

  -- all rows are of such places too
  pub turn_rows_all : q.form ≡ Panes → (q.mode ≡ Retracting → Owns q late past × Owns q late (e ∷ past)) → filter (is_row_at late) (turn_rows q past e) ≡ turn_rows q past e
  turn_rows_all panes owns = turn_rows-at q late panes past e owns ∙ rows_all ∙ sym (rows_of_panes q panes past e)

-- where each pane is
module _ (q : Query) (late : Place → Bool) where
  abbrev pub AllPanes : List Event → Type 0
  AllPanes past = (y : Place × List Datum) → IsPane q past y → late y.0 ≡ true

  pub live_at : (past : List Event) → AllPanes past → (w : ℤ) → filter (is_pane_at late) (filter (λ y. is_live_at q w y.0) (panes q past)) ≡ filter (λ y. is_live_at q w y.0) (panes q past)
  live_at past all w =
      let live : List (Place × List Datum) = filter (λ y. is_live_at q w y.0) (panes q past) in
      all_of (is_pane_at late) live (all-each (IsPane q past) (λ y. late y.0 ≡ true) live all (filter-all (IsPane q past) (λ y. is_live_at q w y.0) (panes q past) (each_pane q past)))

  pub all_at : (past : List Event) (e : Event) → AllPanes past → AllPanes (e ∷ past) → AllAt q late past e
  all_at past e all next = record {
    held = live_at past all (mark q past);
    before_drops = live_at (e ∷ past) next (mark q past);
    firings = firings_at q late past e
        ∙ ap (filter_map (does q past e)) (all_of (is_pane_at late) (panes q (e ∷ past)) (all-each (IsPane q (e ∷ past)) (λ y. late y.0 ≡ true) (panes q (e ∷ past)) next (each_pane q (e ∷ past))));
  }
