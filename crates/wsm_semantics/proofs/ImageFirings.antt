-- A history of which another is the image: for some places each has the panes of the other, its records moved. So the same
-- fires there, turn by turn.
use Rattle.std.proofs.Common.{◌≡◌, Bool, ◌&&◌, not, List, [], ◌∷◌, ◌++◌, map, length, ℤ, true, sym, ap, subst, ◌∙◌, append-nil}
use Rattle.std.proofs.lemmas.List.{map-append}
use Rattle.std.specs.Prelude.{filter, filter_map, option_map}
use Rattle.std.specs.List.{AllByRecursion, list_any}
use Rattle.wsm_record.proofs.Lists.{list_any-map}
use Rattle.wsm_record.specs.Event.{Event}
use Rattle.wsm_windows.specs.declared.place.Place.{Place}
use Rattle.wsm_semantics.specs.Query.{Datum, Query, effect_of}
use Rattle.wsm_semantics.specs.Panes.{is_live_at, panes}
use Rattle.wsm_semantics.specs.Firings.{Firing, firings, firings_so_far, firing_of, firing_set, holds, is_shown, kind_on, shows}
use Rattle.wsm_semantics.proofs.Lists.{all-each, filter_same}
use Rattle.wsm_semantics.proofs.Each.{all-any, all-both, all-passed, filter-append, filter-each, filter-map, filter_swap, list_any-each}
use Rattle.wsm_semantics.proofs.Effects.{effect_with}
use Rattle.wsm_semantics.proofs.PanesOrder.{panes_of}
use Rattle.wsm_semantics.proofs.ShownPanes.{IsPane, each_pane, unshown_of, kind_of, does}
use Rattle.wsm_semantics.proofs.Given.{filter_map-image, all-of_map}
use Rattle.wsm_semantics.proofs.Moves.{Moves, Own, like, moved, place_moved, pane_moved, firing_moved, shows_moved, holds_moved, set_moved, firing_of_moved, kind_moved}
use Rattle.wsm_semantics.proofs.MovedPanes.{panes_moved}
use Rattle.wsm_semantics.proofs.Counted.{Covers, Finds, StandNew, fired_at, firings_at, is_pane_at, panes_new}

-- how records are moved, and which places count here and there
pub record Image (q : Query) (o : Own) : Type 0 where
  pub moves : Moves
  pub here : Place → Bool
  pub there : Place → Bool
  pub finds : Finds q here
  pub finds_there : Finds (like q o) there

-- panes and firings here are those there, moved
abbrev pub PanesAlike : (q : Query) (o : Own) → Image q o → List (Place × List Datum) → List (Place × List Datum) → Type 0
PanesAlike q o image xs ys = filter (is_pane_at image.here) xs ≡ map (pane_moved image.moves) (filter (is_pane_at image.there) ys)

abbrev pub FiredAlike : (q : Query) (o : Own) → Image q o → List Firing → List Firing → Type 0
FiredAlike q o image fs gs = filter (fired_at image.here) fs ≡ map (firing_moved image.moves) (filter (fired_at image.there) gs)

-- a pane there that is one here too
pub record IsOfBoth (q : Query) (o : Own) (image : Image q o) (whole part : List Event) (y : Place × List Datum) : Type 0 where
  pub counts : image.here (place_moved image.moves y.0) ≡ true
  pub counts_there : image.there y.0 ≡ true
  pub first : IsPane q whole (pane_moved image.moves y)
  pub second : IsPane (like q o) part y

-- an event that both have: it does the same, on its turn in each
pub record Both (q : Query) (o : Own) (image : Image q o) (whole part : List Event) (e d : Event) : Type 0 where
  pub turn : image.moves.turn (length part) ≡ length whole
  pub effect : effect_of q whole e ≡ effect_with (moved image.moves) (effect_of (like q o) part d)
  pub panes : PanesAlike q o image (panes q (e ∷ whole)) (panes (like q o) (d ∷ part))

-- the panes of records that are the same, where some of them decide
pub panes_image : (q : Query) (o : Own) (m : Moves) (late : Place → Bool) (new new_there : Datum → Bool) → StandNew q late new → StandNew q (λ p. late (place_moved m p)) new_there → (ds es : List Datum) →
    Covers q late new ds → Covers q (λ p. late (place_moved m p)) new_there es → filter new ds ≡ map (moved m) (filter new_there es) →
    filter (is_pane_at late) (panes_of q ds) ≡ map (pane_moved m) (filter (is_pane_at (λ p. late (place_moved m p))) (panes_of q es))
panes_image q o m late new new_there stand stand_there ds es covers covers_there same =
    panes_new q late new stand ds covers
    ∙ ap (λ (xs : List Datum). filter (is_pane_at late) (panes_of q xs)) same
    ∙ ap (filter (is_pane_at late)) (panes_moved m q (filter new_there es))
    ∙ filter-map (pane_moved m) (is_pane_at late) (panes_of q (filter new_there es))
    ∙ ap (map (pane_moved m)) (sym (panes_new q (λ p. late (place_moved m p)) new_there stand_there es covers_there))

module _ (q : Query) (o : Own) (image : Image q o) where
  abbrev r : Query
  r = like q o

  abbrev m : Moves
  m = image.moves

  abbrev Pane : Type 0
  Pane = Place × List Datum

  -- those that live at marks that are the same
  pub live_alike : (xs ys : List Pane) → PanesAlike q o image xs ys → (w v : ℤ) → v ≡ w → PanesAlike q o image (filter (λ x. is_live_at q w x.0) xs) (filter (λ y. is_live_at q v y.0) ys)
  live_alike xs ys alike w v same =
      filter_swap (is_pane_at image.here) (λ x. is_live_at q w x.0) xs
      ∙ ap (filter (λ x. is_live_at q w x.0)) alike
      ∙ filter-map (pane_moved m) (λ x. is_live_at q w x.0) (filter (is_pane_at image.there) ys)
      ∙ ap (map (pane_moved m)) (filter_swap (λ y. is_live_at q w y.0) (is_pane_at image.there) ys)
      ∙ ap (λ (u : ℤ). map (pane_moved m) (filter (is_pane_at image.there) (filter (λ y. is_live_at q u y.0) ys))) (sym same)

  pub of_both : (whole part : List Event) (xs ys : List Pane) → PanesAlike q o image xs ys → AllByRecursion (IsPane q whole) xs → AllByRecursion (IsPane r part) ys → AllByRecursion (IsOfBoth q o image whole part) (filter (is_pane_at image.there) ys)
  of_both whole part xs ys alike in_first in_second =
      let zs : List Pane = filter (is_pane_at image.there) ys in
      let Counts : Pane → Type 0 = λ x. (image.here x.0 ≡ true) × IsPane q whole x in
      let Is : Pane → Type 0 = λ y. (image.there y.0 ≡ true) × IsPane r part y in
      all-both (λ y. Counts (pane_moved m y)) Is (IsOfBoth q o image whole part) (λ y a b. record { counts = a.0; counts_there = b.0; first = a.1; second = b.1 }) zs
      (all-of_map Counts (pane_moved m) zs (subst (AllByRecursion Counts) alike (all-passed (IsPane q whole) Counts (is_pane_at image.here) (λ x is passes. (passes, is)) xs in_first)))
      (all-passed (IsPane r part) Is (is_pane_at image.there) (λ y is passes. (passes, is)) ys in_second)

  -- ---- an event that both have

  module _ (whole part : List Event) (fired : FiredAlike q o image (firings_so_far q whole) (firings_so_far r part)) where
    shown_alike : (p : Place) (d : Datum) →
        list_any (λ g. shows q.shape (place_moved m p) g.place && holds (moved m d) g.contents) (filter (fired_at image.here) (firings_so_far q whole))
        ≡ list_any (λ g. shows q.shape p g.place && holds d g.contents) (filter (fired_at image.there) (firings_so_far r part))
    shown_alike p d =
        let gs : List Firing = filter (fired_at image.there) (firings_so_far r part) in
        ap (list_any (λ g. shows q.shape (place_moved m p) g.place && holds (moved m d) g.contents)) fired
        ∙ list_any-map (λ g. shows q.shape (place_moved m p) g.place && holds (moved m d) g.contents) (firing_moved m) gs
        ∙ list_any-each (λ g. shows q.shape (place_moved m p) (place_moved m g.place) && holds (moved m d) (map (moved m) g.contents)) (λ g. shows q.shape p g.place && holds d g.contents) gs
        (all-any (λ g. (shows q.shape (place_moved m p) (place_moved m g.place) && holds (moved m d) (map (moved m) g.contents)) ≡ (shows q.shape p g.place && holds d g.contents)) (λ g i. shows_moved m q.shape p g.place i && holds_moved m d g.contents i) gs)

    module _ (e d : Event) where
      pub unshown_alike : (y : Pane) → IsOfBoth q o image (e ∷ whole) (d ∷ part) y → unshown_of q whole (place_moved m y.0) (map (moved m) y.1) ≡ map (moved m) (unshown_of r part y.0 y.1)
      unshown_alike y is =
          let p : Place = place_moved m y.0 in
          let by_first : Datum → Bool = λ x. list_any (λ g. shows q.shape p g.place && holds x g.contents) (filter (fired_at image.here) (firings_so_far q whole)) in
          let by_second : Datum → Bool = λ x. list_any (λ g. shows q.shape y.0 g.place && holds x g.contents) (filter (fired_at image.there) (firings_so_far r part)) in
          let in_first : AllByRecursion (λ x. is_shown q whole p x ≡ by_first x) (map (moved m) y.1) =
          subst (AllByRecursion (λ x. is_shown q whole p x ≡ by_first x)) (sym is.first.0) (image.finds.shown whole e p is.counts is.first.1) in
          let in_second : AllByRecursion (λ x. is_shown r part y.0 x ≡ by_second x) y.1 =
          subst (AllByRecursion (λ x. is_shown r part y.0 x ≡ by_second x)) (sym is.second.0) (image.finds_there.shown part d y.0 is.counts_there is.second.1) in
          filter-each (λ x. not (is_shown q whole p x)) (λ x. not (by_first x)) (map (moved m) y.1)
          (all-each (λ x. is_shown q whole p x ≡ by_first x) (λ x. not (is_shown q whole p x) ≡ not (by_first x)) (map (moved m) y.1) (λ x h. ap not h) in_first)
          ∙ filter-map (moved m) (λ x. not (by_first x)) y.1
          ∙ ap (map (moved m))
          (filter_same (λ x. not (by_first (moved m x))) (λ x. not (by_second x)) (λ x. ap not (shown_alike y.0 x)) y.1
          ∙ sym (filter-each (λ x. not (is_shown r part y.0 x)) (λ x. not (by_second x)) y.1
          (all-each (λ x. is_shown r part y.0 x ≡ by_second x) (λ x. not (is_shown r part y.0 x) ≡ not (by_second x)) y.1 (λ x h. ap not h) in_second)))

      module _ (both : Both q o image whole part e d) where
        fires_same : (y : Pane) → IsOfBoth q o image (e ∷ whole) (d ∷ part) y → does q whole e (pane_moved m y) ≡ option_map (firing_moved m) (does r part d y)
        fires_same y is =
            let p : Place = place_moved m y.0 in
            let all : List Datum = map (moved m) y.1 in
            let left : List Datum = unshown_of r part y.0 y.1 in
            (λ i. firing_of (length whole) p all (firing_set q.mode all (unshown_alike y is i)) (kind_on q (both.effect i) p all (unshown_alike y is i)))
            ∙ (λ i. firing_of (length whole) p all (set_moved m q.mode y.1 left i) (kind_moved m q o (effect_of r part d) y.0 y.1 left i))
            ∙ firing_of_moved m (length whole) (length part) both.turn y.0 y.1 (firing_set q.mode y.1 left) (kind_of r part d y.0 y.1)

        pub firings_alike : FiredAlike q o image (firings q whole e) (firings r part d)
        firings_alike =
            let ys : List Pane = panes r (d ∷ part) in
            let zs : List Pane = filter (is_pane_at image.there) ys in
            firings_at q image.here whole e
            ∙ ap (filter_map (does q whole e)) both.panes
            ∙ filter_map-image (does q whole e) (pane_moved m) (does r part d) (firing_moved m) zs
            (all-each (IsOfBoth q o image (e ∷ whole) (d ∷ part)) (λ y. does q whole e (pane_moved m y) ≡ option_map (firing_moved m) (does r part d y)) zs fires_same
            (of_both (e ∷ whole) (d ∷ part) (panes q (e ∷ whole)) ys both.panes (each_pane q (e ∷ whole)) (each_pane r (d ∷ part))))
            ∙ ap (map (firing_moved m)) (sym (firings_at r image.there part d))

        pub fired_both : FiredAlike q o image (firings_so_far q (e ∷ whole)) (firings_so_far r (d ∷ part))
        fired_both =
            filter-append (fired_at image.here) (firings_so_far q whole) (firings q whole e)
            ∙ (λ i. fired i ++ firings_alike i)
            ∙ sym (map-append (firing_moved m) (filter (fired_at image.there) (firings_so_far r part)) (filter (fired_at image.there) (firings r part d)))
            ∙ ap (map (firing_moved m)) (sym (filter-append (fired_at image.there) (firings_so_far r part) (firings r part d)))

    -- ---- one that the first has alone

    pub fired_goes : (e : Event) → filter (fired_at image.here) (firings q whole e) ≡ [] → FiredAlike q o image (firings_so_far q (e ∷ whole)) (firings_so_far r part)
    fired_goes e none =
        filter-append (fired_at image.here) (firings_so_far q whole) (firings q whole e)
        ∙ (λ i. fired i ++ none i)
        ∙ append-nil (map (firing_moved m) (filter (fired_at image.there) (firings_so_far r part)))
