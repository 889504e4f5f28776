-- The rows of a turn, where panes are written, stand in the order of a turn.
use Rattle.std.proofs.Common.{◌≡◌, ◌⊎◌, inl, inr, ℕ, true, false, cond, List, [], ◌∷◌, ◌++◌, map, Option, Some, None, refl, sym, ap, subst, ◌∙◌}
use Rattle.std.proofs.lemmas.Bool.{true≢false, and_parts}
use Rattle.std.proofs.lemmas.Cmp.{nat_cmp_total, tied_itself}
use Rattle.std.proofs.lemmas.Option.{same_Some}
use Rattle.std.specs.Prelude.{filter_map, option_map}
use Rattle.std.specs.List.{AllByRecursion, cons_option}
use Rattle.std.specs.Ordering.{nat_cmp, ordering_then, is_gt, is_lt}
use Rattle.std.specs.declared.cmp.Ordering.{Ordering}
use Rattle.std.specs.declared.cmp.Ordering.TheVariants.{Less, Equal, Greater}
use Rattle.std.specs.FinMap.Entries.{is_sorted, below_all}
use Rattle.wsm_record.specs.declared.cell.Cell.{Cell}
use Rattle.wsm_record.specs.declared.words.Form.{Form}
use Rattle.wsm_record.specs.declared.words.Form.TheVariants.{Panes}
use Rattle.wsm_record.specs.declared.words.Mode.{Mode}
use Rattle.wsm_record.specs.declared.words.Mode.TheVariants.{Discarding, Accumulating, Retracting}
use Rattle.wsm_record.specs.Event.{Event}
use Rattle.wsm_windows.specs.declared.place.Place.{Place}
use Rattle.wsm_windows.specs.Places.{place_cmp, window_of}
use Rattle.wsm_semantics.specs.declared.out_row.OutRow.{OutRow}
use Rattle.wsm_semantics.specs.declared.out_row.OutRow.TheVariants.{Pane}
use Rattle.wsm_semantics.specs.Query.{Datum, Query}
use Rattle.wsm_semantics.specs.Panes.{contents, panes, places}
use Rattle.wsm_semantics.specs.Firings.{Firing, firings, pane_rows, row_of}
use Rattle.wsm_semantics.specs.Retractions.{written_of, withdrawn, with_written, by_place, retract_row, retracted, retract_rows}
use Rattle.wsm_semantics.specs.Relation.{chosen_rows, streamed, turn_rows}
use Rattle.wsm_semantics.proofs.Lists.{all-each}
use Rattle.wsm_semantics.proofs.Each.{all-any, all-append, as_true, filter_map-all, map-all}
use Rattle.wsm_semantics.proofs.Tables.{is_sorted-with_contents}
use Rattle.wsm_semantics.proofs.ShownPanes.{does, firings_are}
use Rattle.wsm_semantics.proofs.FiringsSoFar.{fires_as, not_some}
use Rattle.wsm_key_parts.specs.Merged.{rank, place_of, turn_cmp, with_row, in_order}
use Rattle.wsm_key_parts.proofs.Merged.{AreInOrder, ordered}

-- ---- by their places

module _ {A : Type 0} (place : A → Place) where
  -- each is at a place that is behind none of the later
  abbrev Rising : List A → Type 0
  Rising [] = Unit {0}
  Rising (x ∷ xs) = AllByRecursion (λ y. is_gt (place_cmp (place x) (place y)) ≡ false) xs × Rising xs

less_is : (o : Ordering) → is_lt o ≡ true → is_gt o ≡ false
less_is Less h = refl
less_is Equal h = refl
less_is Greater h = absurd (true≢false (sym h))

all_below : {X : Type 0} (p : Place) (es : List (Place × X)) → below_all place_cmp p es ≡ true → AllByRecursion (λ e. is_gt (place_cmp p e.0) ≡ false) es
all_below p [] h = tt
all_below p (e ∷ es) h = let both = and_parts _ _ h in (less_is (place_cmp p e.0) both.0, all_below p es both.1)

sorted_rises : {X : Type 0} (es : List (Place × X)) → is_sorted place_cmp es ≡ true → Rising (λ e. e.0) es
sorted_rises [] h = tt
sorted_rises (e ∷ es) h = let both = and_parts _ _ h in (all_below e.0 es both.0, sorted_rises es both.1)

-- what is given of each is at its place
given_rises : {A B : Type 0} (f : A → Place) (g : B → Place) (give : A → Option B) → ((x : A) (y : B) → give x ≡ Some y → g y ≡ f x) → (xs : List A) → Rising f xs → Rising g (filter_map give xs)
given_rises f g give same [] h = tt
given_rises f g give same (x ∷ xs) h =
    elim (give x) as (λ o. give x ≡ o → Rising g (cons_option o (filter_map give xs))) [
      | None ↦ λ _. given_rises f g give same xs h.1
      | Some y ↦ λ is. (
        filter_map-all (λ z. is_gt (place_cmp (f x) (f z)) ≡ false) (λ w. is_gt (place_cmp (g y) (g w)) ≡ false) give
            (λ z first w k. (λ i. is_gt (place_cmp (same x y is i) (same z w k i))) ∙ first) xs h.0,
        given_rises f g give same xs h.1,
      )
    ] refl

-- ---- rows of one rank

abbrev pub AreOf : ℕ → List OutRow → Type 0
AreOf n rows = AllByRecursion (λ r. rank r ≡ n) rows

same_rank : (n : ℕ) (a b : OutRow) → rank a ≡ n → rank b ≡ n → turn_cmp a b ≡ place_cmp (place_of a) (place_of b)
same_rank n a b h k =
    (λ i. ordering_then (nat_cmp (h i) (k i)) (place_cmp (place_of a) (place_of b)))
    ∙ ap (λ (o : Ordering). ordering_then o (place_cmp (place_of a) (place_of b))) (tied_itself nat_cmp_total n)

first_of_rank : (n : ℕ) (r : OutRow) (rows : List OutRow) → rank r ≡ n → AreOf n rows → AllByRecursion (λ x. is_gt (place_cmp (place_of r) (place_of x)) ≡ false) rows → AllByRecursion (λ x. is_gt (turn_cmp r x) ≡ false) rows
first_of_rank n r [] own of h = tt
first_of_rank n r (x ∷ xs) own of h = (ap is_gt (same_rank n r x own of.0) ∙ h.0, first_of_rank n r xs own of.1 h.1)

rising_of_rank : (n : ℕ) (rows : List OutRow) → AreOf n rows → Rising place_of rows → AreInOrder rows
rising_of_rank n [] of h = tt
rising_of_rank n (r ∷ rows) of h = (first_of_rank n r rows of.0 of.1 h.0, rising_of_rank n rows of.1 h.1)

-- withdrawn rows stand before panes
before_panes : (xs ys : List OutRow) → AreOf 0 xs → AreOf 1 ys → AreInOrder xs → AreInOrder ys → AreInOrder (xs ++ ys)
before_panes [] ys of of_panes h k = k
before_panes (x ∷ xs) ys of of_panes h k = (
  all-append (λ y. is_gt (turn_cmp x y) ≡ false) xs ys h.0
      (all-each (λ y. rank y ≡ 1) (λ y. is_gt (turn_cmp x y) ≡ false) ys (λ y own. λ i. is_gt (ordering_then (nat_cmp (of.0 i) (own i)) (place_cmp (place_of x) (place_of y)))) of_panes),
  before_panes xs ys of.1 of_panes h.1 k,
)

-- ---- pane rows

module _ (q : Query) where
  of_firing : (g : Firing) (y : OutRow) → row_of q g ≡ Some y → (place_of y ≡ g.place) × (rank y ≡ 1)
  of_firing g y h = by_columns (q.row g.place.key g.fired) h where
    by_columns : (o : Option (List Cell)) → option_map (Pane g.kind g.place.key (window_of g.place)) o ≡ Some y → (place_of y ≡ g.place) × (rank y ≡ 1)
    by_columns None h = absurd (not_some y (sym h))
    by_columns (Some columns) h = let is = same_Some (Pane g.kind g.place.key (window_of g.place) columns) y h in (sym (ap place_of is), sym (ap rank is))

  module _ (past : List Event) (e : Event) where
    firings_rise : Rising (λ (g : Firing). g.place) (firings q past e)
    firings_rise =
        subst (Rising (λ (g : Firing). g.place)) (sym (firings_are q past e))
        (given_rises (λ (x : Place × List Datum). x.0) (λ (g : Firing). g.place) (does q past e) (λ x g h. (fires_as q past e x.0 x.1 g h).place) (panes q (e ∷ past))
        (sorted_rises (panes q (e ∷ past)) (as_true _ (is_sorted-with_contents (contents q (e ∷ past)) (places q (e ∷ past))))))

    panes_of_one : AreOf 1 (pane_rows q past e)
    panes_of_one =
        filter_map-all (λ (g : Firing). Unit {0}) (λ y. rank y ≡ 1) (row_of q) (λ g _ y h. (of_firing g y h).1) (firings q past e) (all-any (λ (g : Firing). Unit {0}) (λ g. tt) (firings q past e))

    panes_in_order : AreInOrder (pane_rows q past e)
    panes_in_order =
        rising_of_rank 1 (pane_rows q past e) panes_of_one
        (given_rises (λ (g : Firing). g.place) place_of (row_of q) (λ g y h. (of_firing g y h).0) (firings q past e) firings_rise)

-- ---- retract rows

abbrev Written : Type 0
Written = Place × List Cell

retract_with : (w : Written) (ws : List Written) → map retract_row (with_written w ws) ≡ with_row (retract_row w) (map retract_row ws)
retract_with w [] = refl
retract_with w (x ∷ xs) =
    elim (is_gt (place_cmp w.0 x.0)) as (λ b. map retract_row (cond b (x ∷ with_written w xs) (w ∷ x ∷ xs)) ≡ cond b (retract_row x ∷ with_row (retract_row w) (map retract_row xs)) (retract_row w ∷ retract_row x ∷ map retract_row xs)) [
      | true ↦ ap (λ (rows : List OutRow). retract_row x ∷ rows) (retract_with w xs)
      | false ↦ refl
    ]

retracted_is : (ws : List Written) → retracted ws ≡ in_order (map retract_row ws)
retracted_is [] = refl
retracted_is (w ∷ ws) = retract_with w (by_place ws) ∙ ap (with_row (retract_row w)) (retracted_is ws)

retracted_of : (ws : List Written) → AreOf 0 (retracted ws)
retracted_of ws = map-all (λ r. rank r ≡ 0) retract_row (by_place ws) (all-any (λ w. rank (retract_row w) ≡ 0) (λ w. refl) (by_place ws))

module _ (q : Query) (past : List Event) (e : Event) where
  pub retracted_in_order : (mode : Mode) → AreInOrder (retract_rows mode q past e) × AreOf 0 (retract_rows mode q past e)
  retracted_in_order Discarding = (tt, tt)
  retracted_in_order Accumulating = (tt, tt)
  retracted_in_order Retracting =
      let ws : List Written = filter_map (written_of q) (withdrawn q past e) in
      (subst AreInOrder (sym (retracted_is ws)) (ordered (map retract_row ws)), retracted_of ws)

  -- ---- all rows of a turn

  pub turn_is : q.form ≡ Panes → turn_rows q past e ≡ retract_rows q.mode q past e ++ pane_rows q past e
  turn_is form = ap (λ (f : Form). chosen_rows f (retract_rows q.mode q past e ++ pane_rows q past e) (streamed q past e)) form

  pub turn_in_order : q.form ≡ Panes → AreInOrder (turn_rows q past e)
  turn_in_order form =
      let gone = retracted_in_order q.mode in
      subst AreInOrder (sym (turn_is form)) (before_panes (retract_rows q.mode q past e) (pane_rows q past e) gone.1 (panes_of_one q past e) gone.0 (panes_in_order q past e))

  -- no row is of a stream
  pub each_of_panes : q.form ≡ Panes → AllByRecursion (λ r. (rank r ≡ 0) ⊎ (rank r ≡ 1)) (turn_rows q past e)
  each_of_panes form =
      subst (AllByRecursion (λ r. (rank r ≡ 0) ⊎ (rank r ≡ 1))) (sym (turn_is form))
      (all-append (λ r. (rank r ≡ 0) ⊎ (rank r ≡ 1)) (retract_rows q.mode q past e) (pane_rows q past e)
      (all-each (λ r. rank r ≡ 0) (λ r. (rank r ≡ 0) ⊎ (rank r ≡ 1)) (retract_rows q.mode q past e) (λ r h. inl h) (retracted_in_order q.mode).1)
      (all-each (λ r. rank r ≡ 1) (λ r. (rank r ≡ 0) ⊎ (rank r ≡ 1)) (pane_rows q past e) (λ r h. inr h) (panes_of_one q past e)))
