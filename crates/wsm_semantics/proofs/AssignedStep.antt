-- Windows assigned by a record's time alone: each pane has records, and a record is put into the
-- panes of its windows.
use Rattle.std.proofs.Common.{◌≡◌, Bool, true, false, ◌||◌, cond, List, [], ◌∷◌, ◌++◌, map, ◌<ℤ◌, T, Option, Some, refl, sym, ap, subst, ◌∙◌, arith}
use Rattle.std.proofs.lemmas.Int.{ints}
use Rattle.std.proofs.lemmas.List.Elements.{All-head, All-tail}
use Rattle.std.specs.Prelude.{All, flat_map}
use Rattle.std.specs.List.{AllByRecursion, list_any}
use Rattle.std.specs.Ordering.{eq_by_cmp}
use Rattle.std.specs.FinMap.Entries.{put, find, is_sorted, find-put, is_sorted-put}
use Rattle.wsm_record.specs.Event.{Event}
use Rattle.wsm_windows.specs.declared.window.Window.{Window}
use Rattle.wsm_windows.specs.Windows.{IsShape, IsRising}
use Rattle.wsm_windows.specs.declared.place.Place.{Place}
use Rattle.wsm_windows.specs.Places.{place_cmp, at}
use Rattle.wsm_windows.proofs.Places.{tie_is, places_total}
use Rattle.wsm_semantics.specs.Query.{Query, Datum, selected}
use Rattle.wsm_semantics.specs.Panes.{windows_among, places, is_there, panes}
use Rattle.wsm_semantics.specs.Kept.{Kept, with_record, assigned}
use Rattle.wsm_semantics.proofs.Lists.{IsNonEmpty, some_pass, all-each}
use Rattle.wsm_semantics.proofs.Tables.{among}
use Rattle.wsm_semantics.proofs.Assigned.{IsAssigned, OnGrid, stands, windows_assigned, among_all, on_grid_all}
use Rattle.wsm_semantics.proofs.ShownPanes.{IsPane, each_pane}

module _ (d : Datum) where
  pub is_sorted-entered : (ws : List Window) (es : List (Place × Kept)) → T (is_sorted place_cmp es) → T (is_sorted place_cmp (assigned d ws es))
  is_sorted-entered [] es h = h
  is_sorted-entered (w ∷ ws) es h = is_sorted-entered ws _ (is_sorted-put place_cmp places_total (at d.key w) (with_record d (find place_cmp (at d.key w) es)) es h)

  apart : (w v : Window) → w.start <ℤ v.start → eq_by_cmp place_cmp (at d.key w) (at d.key v) ≡ false
  apart w v less =
      elim (eq_by_cmp place_cmp (at d.key w) (at d.key v)) as (λ b. eq_by_cmp place_cmp (at d.key w) (at d.key v) ≡ b → b ≡ false) [
        | true ↦ λ e. absurd (let same : w.start ≡ v.start = ap (λ (p : Place). p.start) (tie_is (at d.key w) (at d.key v) e) in omega (arith, ints))
        | false ↦ λ e. refl
      ] refl

  later_apart : (w : Window) (ws : List Window) → All (λ v. w.start <ℤ v.start) ws → among (at d.key w) (map (at d.key) ws) ≡ false
  later_apart w [] h = refl
  later_apart w (v ∷ ws) h =
      let first = apart w v (All-head (λ (v : Window). w.start <ℤ v.start) v ws h) in
      λ i. first i || later_apart w ws (All-tail (λ (v : Window). w.start <ℤ v.start) v ws h) i

  mix : (here later : Bool) (old at_w new : Option Kept) → new ≡ cond here (Some (with_record d at_w)) old → (here ≡ true → (later ≡ false) × (at_w ≡ old)) →
      cond later (Some (with_record d new)) new ≡ cond (here || later) (Some (with_record d old)) old
  mix true later old at_w new h f =
      let (none, same) = f refl in
      ap (λ (b : Bool). cond b (Some (with_record d new)) new) none ∙ h ∙ ap (λ (o : Option Kept). Some (with_record d o)) same
  mix false later old at_w new h f = ap (λ (o : Option Kept). cond later (Some (with_record d o)) o) h

  -- a record is put into the panes of its windows, and into no others
  pub find-entered : (ws : List Window) → IsRising ws → (p : Place) (es : List (Place × Kept)) →
      find place_cmp p (assigned d ws es) ≡ cond (among p (map (at d.key) ws)) (Some (with_record d (find place_cmp p es))) (find place_cmp p es)
  find-entered [] h p es = refl
  find-entered (w ∷ ws) h p es =
      let v : Kept = with_record d (find place_cmp (at d.key w) es) in
      find-entered ws h.1 p (put place_cmp (at d.key w) v es)
      ∙ mix (eq_by_cmp place_cmp p (at d.key w)) (among p (map (at d.key) ws)) (find place_cmp p es) (find place_cmp (at d.key w) es) _
      (find-put place_cmp places_total p (at d.key w) v es)
      (λ e. let same : p ≡ at d.key w = tie_is p (at d.key w) e in (
        ap (λ (r : Place). among r (map (at d.key) ws)) same ∙ later_apart w ws h.0,
        ap (λ (r : Place). find place_cmp r es) (sym same),
      ))

module _ (q : Query) (ok : IsShape q.shape) (assigned : IsAssigned q.shape) (past : List Event) where
  places_flat : (ds xs : List Datum) → flat_map (λ d. map (at d.key) (windows_among q.shape q.clock.lateness ds d)) xs ≡ flat_map (stands q.shape q.clock.lateness ok assigned) xs
  places_flat ds [] = refl
  places_flat ds (x ∷ xs) = λ i. map (at x.key) (windows_assigned q.shape q.clock.lateness assigned ds x i) ++ places_flat ds xs i

  pub places-assigned : places q past ≡ flat_map (stands q.shape q.clock.lateness ok assigned) (selected q past)
  places-assigned = places_flat (selected q past) (selected q past)

  pub among_places : (p : Place) → OnGrid q.shape q.clock.lateness ok assigned p → among p (places q past) ≡ list_any (is_there q p) (selected q past)
  among_places p grid = ap (among p) places-assigned ∙ among_all q.shape q.clock.lateness ok assigned p grid (selected q past)

  pub grid_of : (p : Place) → among p (places q past) ≡ true → OnGrid q.shape q.clock.lateness ok assigned p
  grid_of p h = on_grid_all q.shape q.clock.lateness ok assigned p (selected q past) (ap (among p) (sym places-assigned) ∙ h)

  -- each pane has records
  pub panes_filled : AllByRecursion (λ e. IsNonEmpty e.1) (panes q past)
  panes_filled =
      all-each (IsPane q past) (λ e. IsNonEmpty e.1) (panes q past)
      (λ e pane. subst IsNonEmpty (sym pane.0) (some_pass (is_there q e.0) (selected q past) (sym (among_places e.0 (grid_of e.0 pane.1)) ∙ pane.1)))
      (each_pane q past)
