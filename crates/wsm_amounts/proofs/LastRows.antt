-- The last row of a window that was dropped, where panes accumulate and don't merge, is of the last firing of its place, which has all of
-- its records.
use Rattle.std.proofs.Common.{◌≡◌, ℕ, Bool, true, false, cond, List, [], ◌∷◌, ◌++◌, map, length, ℤ, ◌+ℤ◌, Option, Some, None, is_some, refl, sym, ap, subst, ◌∙◌, append-nil}
use Rattle.std.proofs.lemmas.Bool.{true≢false, false_from_ne_true}
use Rattle.std.proofs.lemmas.Option.{same_Some}
use Rattle.std.proofs.lemmas.List.Elements.{filter_map-append}
use Rattle.std.specs.Prelude.{filter, filter_map, option_map}
use Rattle.std.specs.Option.{IfSome}
use Rattle.std.specs.List.{AllByRecursion, cons_option, last_or, list_any}
use Rattle.std.specs.Ordering.{eq_by_cmp}
use Rattle.wsm_record.specs.declared.cell.Cell.{Cell}
use Rattle.wsm_record.specs.declared.words.Mode.{Mode}
use Rattle.wsm_record.specs.declared.words.Mode.TheVariants.{Accumulating}
use Rattle.wsm_record.specs.declared.words.Form.{Form}
use Rattle.wsm_record.specs.declared.words.Form.TheVariants.{Panes}
use Rattle.wsm_record.specs.Modes.{is_over_all}
use Rattle.wsm_record.specs.Event.{Event}
use Rattle.wsm_windows.specs.declared.window.PaneKind.{PaneKind}
use Rattle.wsm_windows.specs.declared.window.Window.{Window}
use Rattle.wsm_windows.specs.Windows.{IsShape, IsWindowOfShape}
use Rattle.wsm_windows.specs.declared.place.Place.{Place}
use Rattle.wsm_windows.specs.Places.{place_cmp, at, window_of}
use Rattle.wsm_windows.proofs.Places.{tie_is}
use Rattle.wsm_semantics.specs.declared.out_row.OutRow.TheVariants.{Pane}
use Rattle.wsm_semantics.specs.Query.{Query, Datum, SessionsByEvent, mark, selected}
use Rattle.wsm_semantics.specs.Panes.{is_there, contents, places, panes}
use Rattle.wsm_semantics.specs.Firings.{Firing, firing_of, firing_set, firings, firings_so_far, is_shown, pane_rows, row_of}
use Rattle.wsm_semantics.specs.FiringSets.{IsDropped}
use Rattle.wsm_semantics.specs.Retractions.{retract_rows, written_of}
use Rattle.wsm_semantics.specs.Relation.{chosen_rows, streamed, turn_rows}
use Rattle.wsm_semantics.specs.LastingRows.{rows_so_far, shown_by}
use Rattle.wsm_semantics.specs.Amounts.{sum_of, number_of, Amount, amount_of, HasAmount, AddsAmounts}
use Rattle.wsm_semantics.proofs.Lists.{IsNonEmpty, all-each, filter-all, none_pass, some_pass}
use Rattle.wsm_semantics.proofs.Decided.{not_less}
use Rattle.wsm_semantics.proofs.Each.{all-both, all-passed, filter-append, filter_map-all, none_of}
use Rattle.wsm_semantics.proofs.Tables.{among, find-with_contents}
use Rattle.wsm_semantics.proofs.Assigned.{IsAssigned, tied}
use Rattle.wsm_semantics.proofs.AssignedStep.{among_places}
use Rattle.wsm_semantics.proofs.AssignedTurns.{same_shown}
use Rattle.wsm_semantics.proofs.AmountWindows.{no_session}
use Rattle.wsm_semantics.proofs.ShownPanes.{IsPane, does, each_pane, firings_are, kind_of, unshown_of}
use Rattle.wsm_semantics.proofs.FiringsSoFar.{IsFiring, IsOf, PlacesLaw, each_firing, fires_as, not_some, shows_own}
use Rattle.wsm_semantics.proofs.StandsTurn.{firing_as, found_gives}
use Rattle.wsm_semantics.proofs.KeptLaw as kept_law
use Rattle.wsm_semantics.proofs.DroppedShown.{AllShown, dropped_shown}
use Rattle.wsm_semantics.proofs.ShownOnce.{new_have}
use Rattle.wsm_amounts.specs.Whole.{IsPlaced}
use Rattle.wsm_amounts.specs.LastRows.{last_written, WritesEach, LastRowsAddUp}
use Rattle.wsm_amounts.proofs.Whole.{IsLeft, WasShown, left_by, shown_before_quiet}
use Rattle.wsm_amounts.proofs.WholePanes.{IsOverAll, each_adds, each_over_all}

-- ---- the last of some

-- a list that ends with some that are one
last_is : {A : Type 0} (f : A) (o : Option A) (fs gs : List A) → AllByRecursion (λ g. g ≡ f) gs → IsNonEmpty gs → last_or o (fs ++ gs) ≡ Some f
last_is {A} f o [] gs each (g, rest, is) = ap (last_or o) is ∙ ap (λ (g : A). last_or (Some g) rest) same.0 ∙ later rest same.1 where
  same : AllByRecursion (λ g. g ≡ f) (g ∷ rest)
  same = subst (AllByRecursion (λ g. g ≡ f)) is each

  later : (gs : List A) → AllByRecursion (λ g. g ≡ f) gs → last_or (Some f) gs ≡ Some f
  later [] h = refl
  later (g ∷ gs) h = ap (λ (g : A). last_or (Some g) gs) h.0 ∙ later gs h.1
last_is f o (x ∷ fs) gs each some = last_is f (Some x) fs gs each some

last_all : {A : Type 0} (P : A → Type 0) (o : Option A) (xs : List A) → IfSome o P → AllByRecursion P xs → IfSome (last_or o xs) P
last_all P o [] h each = h
last_all P o (x ∷ xs) h each = last_all P (Some x) xs each.0 each.1

module _ (q : Query) (ok : IsShape q.shape) (timely : SessionsByEvent q) (assigned : IsAssigned q.shape) where
  abbrev law : PlacesLaw q
  law = kept_law.places q ok timely

  abbrev fires_at : Place → Firing → Bool
  fires_at p f = eq_by_cmp place_cmp p f.place

  -- the last firing of a place
  abbrev last_fired : List Event → Place → Option Firing
  last_fired past p = last_or None (filter (fires_at p) (firings_so_far q past))

  -- it has all records of the place
  record LastWhole (past : List Event) (p : Place) : Type 0 where
    pub firing : Firing
    pub last : last_fired past p ≡ Some firing
    pub whole : firing.contents ≡ contents q past p

  module _ (past : List Event) (e : Event) (p : Place) where
    abbrev all : List Datum
    all = contents q (e ∷ past) p

    -- of this turn's firings its own alone is there
    own : AllByRecursion (λ f. fires_at p f ≡ true → does q past e (p, all) ≡ Some f) (firings q past e)
    own =
        subst (AllByRecursion (λ f. fires_at p f ≡ true → does q past e (p, all) ≡ Some f)) (sym (firings_are q past e))
        (filter_map-all (IsPane q (e ∷ past)) (λ f. fires_at p f ≡ true → does q past e (p, all) ≡ Some f) (does q past e)
        (λ x pane f fires tie.
        let of_x : IsOf q past x.0 x.1 f = fires_as q past e x.0 x.1 f fires in
        let same : p ≡ x.0 = tie_is p f.place tie ∙ of_x.place in
        (λ i. does q past e (same i, contents q (e ∷ past) (same i))) ∙ ap (λ (c : List Datum). does q past e (x.0, c)) (sym pane.0) ∙ fires)
        (panes q (e ∷ past)) (each_pane q (e ∷ past)))

    fired : (placed : among p (places q (e ∷ past)) ≡ true) (k : PaneKind) → kind_of q past e p all ≡ Some k → last_fired (e ∷ past) p ≡ Some (firing_as q law past e p placed k)
    fired placed k is =
        let f : Firing = firing_as q law past e p placed k in
        let fires : does q past e (p, all) ≡ Some f = ap (firing_of (length past) p all (firing_set q.mode all (unshown_of q past p all))) is in
        ap (last_or None) (filter-append (fires_at p) (firings_so_far q past) (firings q past e))
        ∙ last_is f None (filter (fires_at p) (firings_so_far q past)) (filter (fires_at p) (firings q past e))
        (all-passed (λ g. fires_at p g ≡ true → does q past e (p, all) ≡ Some g) (λ g. g ≡ f) (fires_at p) (λ g its tie. same_Some g f (sym (its tie) ∙ fires)) (firings q past e) own)
        (some_pass (fires_at p) (firings q past e)
        (ap (list_any (fires_at p)) (firings_are q past e)
        ∙ found_gives (does q past e) (fires_at p) p all f fires (tied p p refl) (panes q (e ∷ past))
        (find-with_contents (contents q (e ∷ past)) p (places q (e ∷ past)) ∙ ap (λ (b : Bool). cond b (Some all) None) placed)))

    quiet : kind_of q past e p all ≡ None → last_fired (e ∷ past) p ≡ last_fired past p
    quiet none =
        ap (last_or None)
        (filter-append (fires_at p) (firings_so_far q past) (firings q past e)
        ∙ ap (λ (fs : List Firing). filter (fires_at p) (firings_so_far q past) ++ fs)
        (none_of (fires_at p) (firings q past e)
        (all-each (λ f. fires_at p f ≡ true → does q past e (p, all) ≡ Some f) (λ f. fires_at p f ≡ false) (firings q past e)
        (λ f its. false_from_ne_true (fires_at p f) (λ tie. not_some f (sym (its tie) ∙ ap (firing_of (length past) p all (firing_set q.mode all (unshown_of q past p all))) none))) own))
        ∙ append-nil (filter (fires_at p) (firings_so_far q past)))

  last_whole : (past : List Event) (p : Place) → IsPlaced q past p → AllShown q past p → LastWhole past p
  last_whole [] p placed shown = absurd (true≢false (sym placed))
  last_whole (e ∷ past) p placed shown = by_kind (last_whole past p) (kind_of q past e p (contents q (e ∷ past) p)) refl where
    by_kind : (IsPlaced q past p → AllShown q past p → LastWhole past p) → (o : Option PaneKind) → kind_of q past e p (contents q (e ∷ past) p) ≡ o → LastWhole (e ∷ past) p
    by_kind stood (Some k) is = record { firing = firing_as q law past e p placed k; last = fired past e p placed k is; whole = refl }
    by_kind stood None none =
        let before : WasShown q ok timely past e p = shown_before_quiet q ok timely past e p placed none shown in
        let left : IsLeft q ok timely past e p = left_by q ok timely past p e placed before in
        let old : LastWhole past p = stood left.0 (subst (AllByRecursion (λ d. is_shown q past p d ≡ true)) left.1 before) in
        record { firing = old.firing; last = quiet past e p none ∙ old.last; whole = old.whole ∙ sym left.1 }

  -- a place without records has none
  none_fired : (past : List Event) (p : Place) → among p (places q past) ≡ false → last_fired past p ≡ None
  none_fired past p away =
      ap (last_or None)
      (none_of (fires_at p) (firings_so_far q past)
      (all-each (IsFiring q past) (λ f. fires_at p f ≡ false) (firings_so_far q past)
      (λ f h. false_from_ne_true (fires_at p f) (λ tie.
      let same : h.home ≡ p = same_shown q.shape assigned h.home f.place h.shown ∙ sym (tie_is p f.place tie) in
      true≢false (sym (ap (λ (r : Place). among r (places q past)) (sym same) ∙ h.placed) ∙ away)))
      (each_firing q law past)))

  -- ---- rows

  -- the row of a firing
  abbrev row_at : Option Firing → Option (List Cell)
  row_at None = None
  row_at (Some f) = q.row f.place.key f.fired

  module _ (accumulating : q.mode ≡ Accumulating) (panes_alone : q.form ≡ Panes) where
    turn_is : (past : List Event) (e : Event) → turn_rows q past e ≡ pane_rows q past e
    turn_is past e =
        ap (λ (f : Form). chosen_rows f (retract_rows q.mode q past e ++ pane_rows q past e) (streamed q past e)) panes_alone
        ∙ ap (λ (m : Mode). retract_rows m q past e ++ pane_rows q past e) accumulating

    shown_rows : (fs : List Firing) → filter_map shown_by (filter_map (row_of q) fs) ≡ filter_map (written_of q) fs
    shown_rows [] = refl
    shown_rows (f ∷ fs) = of_row (q.row f.place.key f.fired) (shown_rows fs) where
      of_row : (o : Option (List Cell)) → filter_map shown_by (filter_map (row_of q) fs) ≡ filter_map (written_of q) fs → filter_map shown_by (cons_option (option_map (Pane f.kind f.place.key (window_of f.place)) o) (filter_map (row_of q) fs)) ≡ cons_option (option_map (λ columns. (f.place, columns)) o) (filter_map (written_of q) fs)
      of_row None h = h
      of_row (Some columns) h = ap (λ (ws : List (Place × List Cell)). (f.place, columns) ∷ ws) h

    panes_written : (past : List Event) → filter_map shown_by (rows_so_far q past) ≡ filter_map (written_of q) (firings_so_far q past)
    panes_written [] = refl
    panes_written (e ∷ past) =
        filter_map-append shown_by (rows_so_far q past) (turn_rows q past e)
        ∙ (λ i. panes_written past i ++ (ap (filter_map shown_by) (turn_is past e) ∙ shown_rows (firings q past e)) i)
        ∙ sym (filter_map-append (written_of q) (firings_so_far q past) (firings q past e))

    module _ (each : WritesEach q) (p : Place) where
      -- the last row of a place is that of its last firing
      last_of_rows : (w : Option (List Cell)) (o : Option Firing) → w ≡ row_at o → (fs : List Firing) →
          last_or w (map (λ w. w.1) (filter (λ w. eq_by_cmp place_cmp p w.0) (filter_map (written_of q) fs))) ≡ row_at (last_or o (filter (fires_at p) fs))
      last_of_rows w o h [] = h
      last_of_rows w o h (g ∷ fs) =
          let rows : List (Place × List Cell) = filter_map (written_of q) fs in
          let there : List Firing = filter (fires_at p) fs in
          elim (q.row g.place.key g.fired) as (λ r. q.row g.place.key g.fired ≡ r → is_some r ≡ true →
          last_or w (map (λ w. w.1) (filter (λ w. eq_by_cmp place_cmp p w.0) (cons_option (option_map (λ columns. (g.place, columns)) r) rows))) ≡ row_at (last_or o (cond (fires_at p g) (g ∷ there) there))) [
            | None ↦ λ _ some. absurd (true≢false (sym some))
            | Some columns ↦ λ is _.
                elim (fires_at p g) as (λ b. last_or w (map (λ w. w.1) (cond b ((g.place, columns) ∷ filter (λ w. eq_by_cmp place_cmp p w.0) rows) (filter (λ w. eq_by_cmp place_cmp p w.0) rows))) ≡ row_at (last_or o (cond b (g ∷ there) there))) [
                  | true ↦ last_of_rows (Some columns) (Some g) (sym is) fs
                  | false ↦ last_of_rows w o h fs
                ]
          ] refl (each g.place.key g.fired)

    module _ (each : WritesEach q) (c : ℕ) (amount : Amount) (adds : AddsAmounts q c amount) where
      abbrev IsTold : Firing → Type 0
      IsTold f = IsOverAll f × HasAmount q c amount f

      of_window : (past : List Event) (key : ℕ) (u : ℤ) (w : Window) → IsWindowOfShape q.shape u w → IsDropped q past w → number_of c (last_written q past (at key w)) ≡ sum_of (amount_of amount) (contents q past (at key w))
      of_window past key u w grid dropped =
          let p : Place = at key w in
          let fs : List Firing = firings_so_far q past in
          ap (λ (ws : List (Place × List Cell)). number_of c (last_or None (map (λ w. w.1) (filter (λ w. eq_by_cmp place_cmp p w.0) ws)))) (panes_written past)
          ∙ ap (number_of c) (last_of_rows each p None None refl fs)
          ∙ elim (among p (places q past)) as (λ b. among p (places q past) ≡ b → number_of c (row_at (last_fired past p)) ≡ sum_of (amount_of amount) (contents q past p)) [
            | true ↦ λ placed.
                let l : LastWhole past p = last_whole past p placed (dropped_shown q timely (shows_own q law) (new_have q ok timely q.shape refl) past p placed (not_less (mark q past) (w.end +ℤ q.clock.lateness) dropped)) in
                let told : IsTold l.firing =
                subst (λ (o : Option Firing). IfSome o IsTold) l.last
                (last_all IsTold None (filter (fires_at p) fs) tt
                (filter-all IsTold (fires_at p) fs (all-both IsOverAll (HasAmount q c amount) IsTold (λ f a b. (a, b)) fs (each_over_all q (ap is_over_all accumulating) past) (each_adds q c amount adds past)))) in
                ap (λ (o : Option Firing). number_of c (row_at o)) l.last ∙ told.1 ∙ ap (sum_of (amount_of amount)) (told.0 ∙ l.whole)
            | false ↦ λ away.
                let empty : contents q past p ≡ [] = none_pass (is_there q p) (selected q past) (sym (among_places q ok assigned past p (u, grid)) ∙ away) in
                ap (λ (o : Option Firing). number_of c (row_at o)) (none_fired past p away) ∙ sym (ap (sum_of (amount_of amount)) empty)
          ] refl

pub last_rows : (q : Query) → IsShape q.shape → SessionsByEvent q → q.mode ≡ Accumulating → q.form ≡ Panes → WritesEach q → (c : ℕ) (amount : Amount) → AddsAmounts q c amount → LastRowsAddUp q c amount
last_rows q ok timely accumulating panes each c amount adds none past key u w grid dropped = of_window q ok timely (no_session q.shape none) accumulating panes each c amount adds past key u w grid dropped
