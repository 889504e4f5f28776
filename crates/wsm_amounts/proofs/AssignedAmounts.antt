-- What is written where windows don't merge and panes retract: of one window, what its records that were shown come to, and once it was
-- dropped all; of windows that were dropped, what the query that discards writes of them.
use Rattle.std.proofs.Common.{◌≡◌, ℕ, Bool, true, false, ◌&&◌, cond, List, [], length, ℤ, pos, ◌+ℤ◌, ◌-ℤ◌, ◌*ℤ◌, ◌≤ℤ◌, Option, Some, None, refl, sym, ap, subst, ◌∙◌, arith}
use Rattle.std.proofs.lemmas.Int.{ints}
use Rattle.std.proofs.lemmas.Bool.{true≢false, and_parts, false_from_ne_true}
use Rattle.std.specs.Prelude.{filter, int_lt}
use Rattle.std.specs.List.{AllByRecursion, list_any}
use Rattle.std.specs.Ordering.{eq_by_cmp}
use Rattle.wsm_record.specs.declared.words.Mode.TheVariants.{Retracting}
use Rattle.wsm_record.specs.declared.words.Form.TheVariants.{Panes}
use Rattle.wsm_record.specs.Event.{Event}
use Rattle.wsm_windows.specs.declared.window.Window.{Window}
use Rattle.wsm_windows.specs.declared.window.Shape.{Shape}
use Rattle.wsm_windows.specs.declared.window.Shape.TheVariants.{Fixed, Sliding, Session}
use Rattle.wsm_windows.specs.Windows.{last_start, size_of, period_of, IsWindowOf, IsWindowOfShape, IsShape}
use Rattle.wsm_windows.specs.declared.place.Place.{Place}
use Rattle.wsm_windows.specs.Places.{place_cmp, at, window_of}
use Rattle.wsm_windows.proofs.Places.{tie_is}
use Rattle.wsm_semantics.specs.Query.{Query, Datum, SessionsByEvent, mark, selected}
use Rattle.wsm_semantics.specs.Panes.{of_key, is_there, contents, panes, places, windows_among, is_live_at}
use Rattle.wsm_semantics.specs.Firings.{Firing, holds, is_shown}
use Rattle.wsm_semantics.specs.FromWatermark.{HasNoSessions}
use Rattle.wsm_semantics.specs.Amounts.{sum_of, number_of, many, starts_in, windows_in, amount_written, Amount, amount_of, AddsAmounts, begins_in, comes_in, amount_owed, OfWindow, AmountsAddUp}
use Rattle.wsm_semantics.proofs.Lists.{all-each, none_pass}
use Rattle.wsm_semantics.proofs.Decided.{less_than, not_less}
use Rattle.wsm_semantics.proofs.Tables.{among}
use Rattle.wsm_semantics.proofs.Assigned.{IsAssigned, tied}
use Rattle.wsm_semantics.proofs.AssignedStep.{among_places, grid_of}
use Rattle.wsm_semantics.proofs.AssignedTurns.{same_shown}
use Rattle.wsm_semantics.proofs.Each.{all-both, filter-each, filter-filter, list_any-none, none_of}
use Rattle.wsm_semantics.proofs.MergedRecords.{holds-filter, selected_falls}
use Rattle.wsm_semantics.proofs.ShownPanes.{IsPane, each_pane, found}
use Rattle.wsm_semantics.proofs.WindowEnds.{begins_by, begins_from}
use Rattle.wsm_semantics.proofs.Sums.{sum_of-each}
use Rattle.wsm_semantics.proofs.AmountWindows.{passed_back}
use Rattle.wsm_semantics.proofs.AmountLaw as amount_law
use Rattle.wsm_amounts.proofs.Sums.{given}
use Rattle.wsm_amounts.proofs.Written.{row_worth, written_lasting}
use Rattle.wsm_amounts.proofs.Dropped.{stands_for, stands_worth, of_lasting}
use Rattle.wsm_amounts.proofs.WholePanes.{AreGone, Agrees, IsTold, Stands, pane_amount, of_panes, told}
use Rattle.wsm_amounts.proofs.Companion.{at_place, of_discarding, discarded, discarded_adds, selected_same, panes_same, contents_same, places_same}
use Rattle.wsm_amounts.proofs.ShownRecords.{held_by, shows_held}

-- ---- which windows were dropped

ends_with : (shape : Shape) → IsAssigned shape → (t : ℤ) (w : Window) → IsWindowOfShape shape t w → w.end ≡ w.start +ℤ size_of shape
ends_with (Fixed size) a t w h = h.end
ends_with (Sliding size period) a t w h = h.end
ends_with (Session gap) a t w h = absurd a

gone_by : (start end size until l m : ℤ) → end ≡ start +ℤ size → int_lt start until ≡ true → (((until -ℤ pos 1) +ℤ size) +ℤ l) ≤ℤ m → (end +ℤ l) ≤ℤ m
gone_by start end size until l m is h k = grind (arith, ints)

starts_at : (start k : ℤ) → start ≡ k → k ≤ℤ start
starts_at start k is = omega (arith, ints)

next_start : (start k before b size : ℤ) → start ≡ k → k ≤ℤ before → (before +ℤ size) ≤ℤ b → (start +ℤ size) ≤ℤ b
next_start start k before b size h m n = omega (arith, ints)

passed_it : (end start size b l w : ℤ) → end ≡ start +ℤ size → (start +ℤ size) ≤ℤ b → (b +ℤ l) ≤ℤ w → (end +ℤ l) ≤ℤ w
passed_it end start size b l w e h k = omega (arith, ints)

-- a window that begins before the end of a span of whole windows ends by it
ends_in : (size j t : ℤ) → pos 1 ≤ℤ size → (w : Window) → IsWindowOf size size t w → int_lt w.start (j *ℤ size) ≡ true → (w.start +ℤ size) ≤ℤ (j *ℤ size)
ends_in size j t long w h begins =
    next_start w.start (h.k *ℤ size) (last_start size w.start) (j *ℤ size) size h.start (begins_by size h.k w.start long (starts_at w.start (h.k *ℤ size) h.start))
    (begins_from size j w.start long (less_than w.start (j *ℤ size) begins))

module _ (q : Query) (ok : IsShape q.shape) (timely : SessionsByEvent q) (low : pos 0 ≤ℤ q.clock.lateness) (retracting : q.mode ≡ Retracting) (panes_alone : q.form ≡ Panes) (c : ℕ) (amount : Amount) (adds : AddsAmounts q c amount) (assigned : IsAssigned q.shape) where
  abbrev f : Datum → ℤ
  f = amount_of amount

  -- ---- beside the query that discards

  abbrev other : Query
  other = discarded q amount

  none : HasNoSessions q
  none gap is = subst IsAssigned is assigned

  law : AmountsAddUp other 0 amount
  law = amount_law.amounts_add_up other ok timely refl refl 0 amount (discarded_adds q amount)

  module _ (past : List Event) (here : Place → Bool) where
    agrees : Agrees q ok timely low retracting panes_alone c amount adds past here
    agrees x is g stands = ap here (sym (same_shown q.shape assigned x.0 g.place (told q ok timely low retracting panes_alone c amount adds past x g stands).shown))

    gone_too : AreGone q past here → AreGone other past here
    gone_too gone x is = gone x (is.0 ∙ contents_same q amount past x.0, ap (among x.0) (sym (places_same q amount past)) ∙ is.1)

    same_written : AreGone q past here → amount_written q past c here ≡ amount_written other past 0 here
    same_written gone =
        of_panes q ok timely low retracting panes_alone c amount adds past here agrees gone
        ∙ ap (sum_of (pane_amount amount here)) (sym (panes_same q amount past))
        ∙ sym (of_discarding other ok timely assigned refl refl 0 amount (discarded_adds q amount) law none past here (gone_too gone))

  pub of_spread : (past : List Event) (key : ℕ) (from until : ℤ) → (((until -ℤ pos 1) +ℤ size_of q.shape) +ℤ q.clock.lateness) ≤ℤ mark q past →
      amount_written q past c (begins_in key from until) ≡ sum_of (λ d. many (windows_in q past from until d) (f d)) (of_key key (selected q past))
  of_spread past key from until gone =
      same_written past (begins_in key from until)
      (λ x is h.
      let grid = grid_of q ok assigned past x.0 is.1 in
      let begins : int_lt x.0.start until ≡ true = (and_parts _ _ (and_parts _ _ h).1).1 in
      not_less (mark q past) (x.0.end +ℤ q.clock.lateness) (gone_by x.0.start x.0.end (size_of q.shape) until q.clock.lateness (mark q past) (ends_with q.shape assigned grid.0 (window_of x.0) grid.1) begins gone))
      ∙ law.spread none past key from until gone
      ∙ ap (λ (ds : List Datum). sum_of (λ d. many (length (filter (starts_in from until) (windows_among q.shape q.clock.lateness ds d))) (f d)) (of_key key ds)) (selected_same q amount past)

  pub of_span : (size : ℤ) → q.shape ≡ Fixed size → (past : List Event) (key : ℕ) (i j : ℤ) → ((j *ℤ size) +ℤ q.clock.lateness) ≤ℤ mark q past →
      amount_written q past c (begins_in key (i *ℤ size) (j *ℤ size)) ≡ amount_owed q past amount key (i *ℤ size) (j *ℤ size)
  of_span size is past key i j gone =
      same_written past (begins_in key (i *ℤ size) (j *ℤ size))
      (λ x pane h.
      let long : pos 1 ≤ℤ size = subst (λ (s : Shape). pos 1 ≤ℤ period_of s) is ok.period_low in
      let grid = grid_of q ok assigned past x.0 pane.1 in
      let w : Window = window_of x.0 in
      let on : IsWindowOf size size grid.0 w = subst (λ (s : Shape). IsWindowOfShape s grid.0 w) is grid.1 in
      let begins : int_lt x.0.start (j *ℤ size) ≡ true = (and_parts _ _ (and_parts _ _ h).1).1 in
      not_less (mark q past) (x.0.end +ℤ q.clock.lateness) (passed_it x.0.end x.0.start size (j *ℤ size) q.clock.lateness (mark q past) on.end (ends_in size j grid.0 long w on begins) gone))
      ∙ law.spans size is past key i j gone
      ∙ ap (λ (ds : List Datum). sum_of f (filter (comes_in key (i *ℤ size) (j *ℤ size)) ds)) (selected_same q amount past)

  -- ---- one window

  module _ (past : List Event) (p : Place) where
    abbrev here : Place → Bool
    here r = eq_by_cmp place_cmp p r

    abbrev stood : Place × List Datum → Option Firing
    stood x = stands_for q ok timely low past x

    abbrev all : List Datum
    all = contents q past p

    -- what the firing that stands for it comes to
    abbrev stood_amount : ℤ
    stood_amount = given (λ g. sum_of f g.fired) (stood (p, all))

    by_stood : (o : Option Firing) → stood (p, all) ≡ o → given (row_worth q c here) o ≡ given (λ g. sum_of f g.fired) o
    by_stood None is = refl
    by_stood (Some g) is =
        let k : Stands q (IsTold q ok timely low retracting panes_alone c amount adds past) p all g = told q ok timely low retracting panes_alone c amount adds past (p, all) g is in
        ap (λ (b : Bool). cond b (number_of c (q.row g.place.key g.fired)) (pos 0)) (ap here (sym (same_shown q.shape assigned p g.place k.shown)) ∙ here_itself) ∙ k.told.sums
      where
        here_itself : here p ≡ true
        here_itself = tied p p refl

    elsewhere : (x : Place × List Datum) → here x.0 ≡ false → (o : Option Firing) → stood x ≡ o → given (row_worth q c here) o ≡ pos 0
    elsewhere x away None is = refl
    elsewhere x away (Some g) is =
        ap (λ (b : Bool). cond b (number_of c (q.row g.place.key g.fired)) (pos 0))
        (ap here (sym (same_shown q.shape assigned x.0 g.place (told q ok timely low retracting panes_alone c amount adds past x g is).shown)) ∙ away)

    one_pane : (x : Place × List Datum) → IsPane q past x → given (row_worth q c here) (stood x) ≡ cond (here x.0) stood_amount (pos 0)
    one_pane x is =
        elim (here x.0) as (λ b. here x.0 ≡ b → given (row_worth q c here) (stood x) ≡ cond b stood_amount (pos 0)) [
          | true ↦ λ tie.
              let same : x.0 ≡ p = sym (tie_is p x.0 tie) in
              ap (λ (ds : List Datum). given (row_worth q c here) (stood (x.0, ds))) is.0
              ∙ (λ i. given (row_worth q c here) (stood (same i, contents q past (same i))))
              ∙ by_stood (stood (p, all)) refl
          | false ↦ λ away. elsewhere x away (stood x) refl
        ] refl

    written_stood : amount_written q past c here ≡ cond (list_any (λ x. here x.0) (panes q past)) stood_amount (pos 0)
    written_stood =
        written_lasting q ok timely low retracting panes_alone c here past
        ∙ of_lasting q ok timely low (row_worth q c here) past
        ∙ sum_of-each (stands_worth q ok timely low (row_worth q c here) past) (λ x. cond (here x.0) stood_amount (pos 0)) (panes q past)
        (all-each (IsPane q past) (λ x. given (row_worth q c here) (stood x) ≡ cond (here x.0) stood_amount (pos 0)) (panes q past) one_pane (each_pane q past))
        ∙ at_place q past p stood_amount

    -- which of its records the firing has
    abbrev shown : List Datum
    shown = filter (is_shown q past p) all

    has_shown : (held there showed : Bool) → (held ≡ true → there ≡ true) → (there ≡ true → held ≡ showed) → held ≡ (there && showed)
    has_shown held true showed a b = b refl
    has_shown true false showed a b = absurd (true≢false (sym (a refl)))
    has_shown false false showed a b = refl

    by_firing : among p (places q past) ≡ true → (o : Option Firing) → stood (p, all) ≡ o → given (λ g. sum_of f g.fired) o ≡ sum_of f shown
    by_firing placed None is =
        ap (sum_of f)
        (sym (none_of (is_shown q past p) all
        (all-each (λ d. held_by (stood (p, all)) d ≡ is_shown q past p d) (λ d. is_shown q past p d ≡ false) all (λ d h. sym h ∙ ap (λ (o : Option Firing). held_by o d) is) (shows_held q ok timely assigned past p placed))))
    by_firing placed (Some g) is =
        let k : Stands q (IsTold q ok timely low retracting panes_alone c amount adds past) p all g = told q ok timely low retracting panes_alone c amount adds past (p, all) g is in
        let sel : List Datum = selected q past in
        let tells : AllByRecursion (λ d. is_there q p d ≡ true → holds d g.contents ≡ is_shown q past p d) sel =
        passed_back (λ d. holds d g.contents ≡ is_shown q past p d) (is_there q p) sel
        (all-each (λ d. held_by (stood (p, all)) d ≡ is_shown q past p d) (λ d. holds d g.contents ≡ is_shown q past p d) all (λ d h. sym (ap (λ (o : Option Firing). held_by o d) is) ∙ h) (shows_held q ok timely assigned past p placed)) in
        ap (sum_of f)
        (k.told.over ∙ k.told.home.firing.part
        ∙ filter-each (λ d. holds d g.contents) (λ d. is_there q p d && is_shown q past p d) sel
        (all-both (λ d. holds d all ≡ is_there q p d) (λ d. is_there q p d ≡ true → holds d g.contents ≡ is_shown q past p d) (λ d. holds d g.contents ≡ (is_there q p d && is_shown q past p d))
        (λ d there h. has_shown (holds d g.contents) (is_there q p d) (is_shown q past p d) (λ held. sym there ∙ k.inside d held) h) sel
        (holds-filter (is_there q p) sel (selected_falls q past)) tells)
        ∙ sym (filter-filter (is_shown q past p) (is_there q p) sel))

    pub of_shown : (u : ℤ) → IsWindowOfShape q.shape u (window_of p) → amount_written q past c here ≡ sum_of f shown
    of_shown u grid =
        written_stood
        ∙ elim (among p (places q past)) as (λ b. among p (places q past) ≡ b → cond (list_any (λ x. here x.0) (panes q past)) stood_amount (pos 0) ≡ sum_of f shown) [
          | true ↦ λ placed. ap (λ (b : Bool). cond b stood_amount (pos 0)) (found q past p placed) ∙ by_firing placed (stood (p, all)) refl
          | false ↦ λ away.
              let empty : all ≡ [] = none_pass (is_there q p) (selected q past) (sym (among_places q ok assigned past p (u, grid)) ∙ away) in
              ap (λ (b : Bool). cond b stood_amount (pos 0))
              (list_any-none (λ x. here x.0) (panes q past)
              (all-each (IsPane q past) (λ x. here x.0 ≡ false) (panes q past)
              (λ x pane. false_from_ne_true (here x.0) (λ tie. true≢false (sym (ap (λ (r : Place). among r (places q past)) (tie_is p x.0 tie) ∙ pane.1) ∙ away))) (each_pane q past)))
              ∙ sym (ap (λ (ds : List Datum). sum_of f (filter (is_shown q past p) ds)) empty)
        ] refl

  pub of_window : (past : List Event) (key : ℕ) (u : ℤ) (w : Window) → IsWindowOfShape q.shape u w → OfWindow q c amount past key w
  of_window past key u w grid = record {
    shown = of_shown past (at key w) u grid;
    dropped = λ gone.
        same_written past (eq_by_cmp place_cmp (at key w))
        (λ x _ tie. ap (is_live_at q (mark q past)) (sym (tie_is (at key w) x.0 tie)) ∙ not_less (mark q past) (w.end +ℤ q.clock.lateness) gone)
        ∙ (law.windows none past key u w grid).dropped gone
        ∙ ap (sum_of f) (contents_same q amount past (at key w));
  }
