-- Where windows don't merge, the firing that stands for one has the records of it that were shown, whenever it is asked.
use Rattle.std.proofs.Common.{◌≡◌, ℕ, Bool, true, false, ◌&&◌, ◌||◌, List, [], ◌∷◌, length, ◌<◌, Option, Some, None, refl, sym, ap, subst, ◌∙◌, arith}
use Rattle.std.proofs.lemmas.Bool.{true≢false, and_left, false_from_ne_true}
use Rattle.std.proofs.Math.Bool.{or-false}
use Rattle.std.specs.Prelude.{filter}
use Rattle.std.specs.List.{AllByRecursion}
use Rattle.wsm_record.specs.Event.{Event}
use Rattle.wsm_windows.specs.declared.window.PaneKind.{PaneKind}
use Rattle.wsm_windows.specs.Windows.{IsShape}
use Rattle.wsm_windows.specs.declared.place.Place.{Place}
use Rattle.wsm_semantics.specs.Query.{Query, Datum, SessionsByEvent, selected, selection_of}
use Rattle.wsm_semantics.specs.Panes.{is_there, contents, places, panes}
use Rattle.wsm_semantics.specs.Firings.{Firing, firing_of, firing_set, firings, firings_so_far, holds, is_shown, shows}
use Rattle.wsm_semantics.specs.StandingFirings.{standing}
use Rattle.wsm_semantics.proofs.Lists.{all-each, filter-all, none_pass}
use Rattle.wsm_semantics.proofs.Each.{all-append, all-both, filter-append, filter_map-all, list_any-none, passed}
use Rattle.wsm_semantics.proofs.Tables.{among}
use Rattle.wsm_semantics.proofs.Assigned.{IsAssigned}
use Rattle.wsm_semantics.proofs.AssignedStep.{among_places, grid_of}
use Rattle.wsm_semantics.proofs.AssignedTurns.{same_shown, standing_on}
use Rattle.wsm_semantics.proofs.MergedRecords.{Below, none_held, holds-filter, selected_below, selected_falls}
use Rattle.wsm_semantics.proofs.Within.{new_turn}
use Rattle.wsm_semantics.proofs.ShownPanes.{IsPane, does, each_pane, firings_are, kind_of, not_shown_yet, unshown_of, unshown_by, unshown-after}
use Rattle.wsm_semantics.proofs.FiringsSoFar.{IsFiring, PlacesLaw, IsOf, each_firing, fires_as, not_some, shows_own}
use Rattle.wsm_semantics.proofs.StandsTurn.{stands-now, stands-still}
use Rattle.wsm_semantics.proofs.KeptLaw as kept_law
use Rattle.wsm_amounts.proofs.Whole.{passed_all}
use Rattle.wsm_amounts.proofs.WholePanes.{of_standing}

-- what a firing that stands has
abbrev pub held_by : Option Firing → Datum → Bool
held_by None d = false
held_by (Some f) d = holds d f.contents

module _ (q : Query) (ok : IsShape q.shape) (timely : SessionsByEvent q) (assigned : IsAssigned q.shape) where
  abbrev law : PlacesLaw q
  law = kept_law.places q ok timely

  -- of some records of a place
  abbrev pub ShowsHeld : List Event → Place → List Datum → List Datum → Type 0
  ShowsHeld past p all ds = AllByRecursion (λ d. held_by (standing q (firings_so_far q past) p all) d ≡ is_shown q past p d) ds

  -- each of its records is held by all of them
  each_held : (past : List Event) (p : Place) → AllByRecursion (λ d. holds d (contents q past p) ≡ true) (contents q past p)
  each_held past p =
      all-both (λ d. is_there q p d ≡ true) (λ d. holds d (contents q past p) ≡ is_there q p d) (λ d. holds d (contents q past p) ≡ true) (λ d there told. told ∙ there) (contents q past p)
      (passed (is_there q p) (selected q past))
      (filter-all (λ d. holds d (contents q past p) ≡ is_there q p d) (is_there q p) (selected q past) (holds-filter (is_there q p) (selected q past) (selected_falls q past)))

  -- a firing has only records that came before
  older : (past : List Event) (p : Place) (all : List Datum) (d : Datum) → d.turn ≡ length past → (o : Option Firing) → standing q (firings_so_far q past) p all ≡ o → held_by o d ≡ false
  older past p all d now None is = refl
  older past p all d now (Some f) is =
      let told : IsFiring q past f = (of_standing q (IsFiring q past) past (each_firing q law past) p all f is).told in
      let before : Below (length past) f.contents = subst (Below (length past)) (sym told.part) (filter-all (λ (x : Datum). x.turn < length past) (λ x. holds x f.contents) (selected q past) (selected_below q past)) in
      none_held d f.contents (subst (λ (n : ℕ). Below n f.contents) (sym now) before)

  module _ (past : List Event) (e : Event) (p : Place) (placed : among p (places q (e ∷ past)) ≡ true) where
    abbrev all : List Datum
    all = contents q (e ∷ past) p

    -- where it fires, all of them are shown and held
    of_fired : (k : PaneKind) → kind_of q past e p all ≡ Some k → ShowsHeld (e ∷ past) p all all
    of_fired k is =
        all-both (λ d. holds d all ≡ true) (λ d. is_shown q (e ∷ past) p d ≡ true) (λ d. held_by (standing q (firings_so_far q (e ∷ past)) p all) d ≡ is_shown q (e ∷ past) p d)
        (λ d held shown. ap (λ (o : Option Firing). held_by o d) (stands-now q law past e p placed k is) ∙ held ∙ sym shown) all
        (each_held (e ∷ past) p)
        (passed_all (is_shown q (e ∷ past) p) all (unshown-after q past e (shows_own q law (e ∷ past)) p placed ∙ ap (λ (o : Option PaneKind). unshown_by o (unshown_of q past p all)) is))

    -- where it doesn't, nothing of it is shown
    module _ (none : kind_of q past e p all ≡ None) where
      none_shows : AllByRecursion (λ f. shows q.shape p f.place ≡ false) (firings q past e)
      none_shows =
          subst (AllByRecursion (λ f. shows q.shape p f.place ≡ false)) (sym (firings_are q past e))
          (filter_map-all (IsPane q (e ∷ past)) (λ f. shows q.shape p f.place ≡ false) (does q past e)
          (λ x pane f fires.
          let of_x : IsOf q past x.0 x.1 f = fires_as q past e x.0 x.1 f fires in
          false_from_ne_true (shows q.shape p f.place) (λ shown.
          let same : p ≡ x.0 = same_shown q.shape assigned p f.place shown ∙ of_x.place in
          let silent : kind_of q past e x.0 x.1 ≡ None = ap (kind_of q past e x.0) pane.0 ∙ sym (λ i. kind_of q past e (same i) (contents q (e ∷ past) (same i))) ∙ none in
          not_some f (sym fires ∙ ap (firing_of (length past) x.0 x.1 (firing_set q.mode x.1 (unshown_of q past x.0 x.1))) silent)))
          (panes q (e ∷ past)) (each_pane q (e ∷ past)))

      shown_before : (d : Datum) → is_shown q (e ∷ past) p d ≡ is_shown q past p d
      shown_before d =
          ap (λ (b : Bool). is_shown q past p d || b)
          (list_any-none (λ f. shows q.shape p f.place && holds d f.contents) (firings q past e)
          (all-each (λ f. shows q.shape p f.place ≡ false) (λ f. (shows q.shape p f.place && holds d f.contents) ≡ false) (firings q past e) (λ f away. and_left _ _ away) none_shows))
          ∙ or-false (is_shown q past p d)

      of_new : ShowsHeld past p all (filter (is_there q p) (selection_of q past e))
      of_new =
          filter-all (λ d. held_by (standing q (firings_so_far q past) p all) d ≡ is_shown q past p d) (is_there q p) (selection_of q past e)
          (all-each (λ d. d.turn ≡ length past) (λ d. held_by (standing q (firings_so_far q past) p all) d ≡ is_shown q past p d) (selection_of q past e)
          (λ d now. older past p all d now (standing q (firings_so_far q past) p all) refl ∙ sym (not_shown_yet q past p d (omega (arith, now)))) (new_turn q past e))

      of_old : (among p (places q past) ≡ true → ShowsHeld past p (contents q past p) (contents q past p)) → ShowsHeld past p all (contents q past p)
      of_old before =
          elim (among p (places q past)) as (λ b. among p (places q past) ≡ b → ShowsHeld past p all (contents q past p)) [
            | true ↦ λ there. subst (λ (o : Option Firing). AllByRecursion (λ d. held_by o d ≡ is_shown q past p d) (contents q past p)) (sym (standing_on q ok assigned past e p placed there)) (before there)
            | false ↦ λ away.
                let empty : contents q past p ≡ [] = none_pass (is_there q p) (selected q past) (sym (among_places q ok assigned past p (grid_of q ok assigned (e ∷ past) p placed)) ∙ away) in
                subst (ShowsHeld past p all) (sym empty) tt
          ] refl

      of_quiet : (among p (places q past) ≡ true → ShowsHeld past p (contents q past p) (contents q past p)) → ShowsHeld (e ∷ past) p all all
      of_quiet before =
          all-each (λ d. held_by (standing q (firings_so_far q past) p all) d ≡ is_shown q past p d) (λ d. held_by (standing q (firings_so_far q (e ∷ past)) p all) d ≡ is_shown q (e ∷ past) p d) all
          (λ d h. ap (λ (o : Option Firing). held_by o d) (stands-still q law past e p placed none) ∙ h ∙ sym (shown_before d))
          (subst (ShowsHeld past p all) (sym (filter-append (is_there q p) (selection_of q past e) (selected q past)))
          (all-append (λ d. held_by (standing q (firings_so_far q past) p all) d ≡ is_shown q past p d) (filter (is_there q p) (selection_of q past e)) (contents q past p) of_new (of_old before)))

  pub shows_held : (past : List Event) (p : Place) → among p (places q past) ≡ true → ShowsHeld past p (contents q past p) (contents q past p)
  shows_held [] p placed = absurd (true≢false (sym placed))
  shows_held (e ∷ past) p placed = by_kind (shows_held past p) (kind_of q past e p (contents q (e ∷ past) p)) refl where
    by_kind : (among p (places q past) ≡ true → ShowsHeld past p (contents q past p) (contents q past p)) → (o : Option PaneKind) → kind_of q past e p (contents q (e ∷ past) p) ≡ o → ShowsHeld (e ∷ past) p (contents q (e ∷ past) p) (contents q (e ∷ past) p)
    by_kind before (Some k) is = of_fired past e p placed k is
    by_kind before None none = of_quiet past e p placed none before
