-- A history of which another is the image: the same stands for its panes, and an event that both have withdraws the same; one
-- that the other lacks withdraws nothing.
use Rattle.std.proofs.Common.{◌≡◌, Bool, true, false, not, ◌||◌, List, [], ◌∷◌, map, ℤ, sym, ap, refl, ◌∙◌}
use Rattle.std.specs.Prelude.{filter, filter_map, option_map}
use Rattle.std.specs.List.{AllByRecursion, list_any}
use Rattle.wsm_record.specs.Event.{Event}
use Rattle.wsm_windows.specs.declared.place.Place.{Place}
use Rattle.wsm_semantics.specs.Query.{Datum, Query, mark}
use Rattle.wsm_semantics.specs.Panes.{held, is_live_at, panes}
use Rattle.wsm_semantics.specs.Firings.{Firing, firings, firings_so_far}
use Rattle.wsm_semantics.specs.StandingFirings.{candidates, greatest_of, standing}
use Rattle.wsm_semantics.specs.Retractions.{is_same, standing_for}
use Rattle.wsm_semantics.proofs.Lists.{all-each, filter-all}
use Rattle.wsm_semantics.proofs.Each.{none_of}
use Rattle.wsm_semantics.proofs.ShownPanes.{IsPane, each_pane}
use Rattle.wsm_semantics.proofs.Withdrawn.{itself_same}
use Rattle.wsm_semantics.proofs.Given.{filter_map-image}
use Rattle.wsm_semantics.proofs.Moves.{Moves, Own, like, moved, place_moved, pane_moved, firing_moved, candidates_moved, gone_moved, greatest_moved}
use Rattle.wsm_semantics.proofs.Counted.{fired_at, gone_at, is_pane_at}
use Rattle.wsm_semantics.proofs.ImageFirings.{Image, PanesAlike, FiredAlike, IsOfBoth, Both, live_alike, of_both, fired_both, firings_alike}

-- two histories: the marks, and what counts of the panes and of the firings so far, are the same
pub record Told (q : Query) (o : Own) (image : Image q o) (whole part : List Event) : Type 0 where
  pub marks : mark (like q o) part ≡ mark q whole
  pub panes : PanesAlike q o image (panes q whole) (panes (like q o) part)
  pub fired : FiredAlike q o image (firings_so_far q whole) (firings_so_far (like q o) part)

-- a turn of both
pub record Turn (q : Query) (o : Own) (image : Image q o) (whole part : List Event) (e d : Event) : Type 0 where
  pub before : Told q o image whole part
  pub next : Told q o image (e ∷ whole) (d ∷ part)
  pub fired : FiredAlike q o image (firings q whole e) (firings (like q o) part d)

-- what is still there is not gone
all_stay : (fs : List Firing) → filter (λ g. not (list_any (is_same g) fs)) fs ≡ []
all_stay fs = none_of (λ g. not (list_any (is_same g) fs)) fs (each fs fs (λ g h. h))
  where
    each : (all gs : List Firing) → ((g : Firing) → list_any (is_same g) gs ≡ true → list_any (is_same g) all ≡ true) → AllByRecursion (λ g. not (list_any (is_same g) all) ≡ false) gs
    each all [] within = tt
    each all (g ∷ gs) within = (
      ap not (within g (ap (λ (b : Bool). b || list_any (is_same g) gs) (itself_same g))),
      each all gs (λ h k. within h (later (is_same h g) (list_any (is_same h) gs) k)),
    )
      where
        later : (a b : Bool) → b ≡ true → (a || b) ≡ true
        later true b h = refl
        later false b h = h

module _ (q : Query) (o : Own) (image : Image q o) where
  abbrev r : Query
  r = like q o

  abbrev m : Moves
  m = image.moves

  pub turn_alike : (whole part : List Event) (e d : Event) → Told q o image whole part → mark r (d ∷ part) ≡ mark q (e ∷ whole) → Both q o image whole part e d → Turn q o image whole part e d
  turn_alike whole part e d told marks both = record {
    before = told;
    next = record { marks = marks; panes = both.panes; fired = fired_both q o image whole part told.fired e d both };
    fired = firings_alike q o image whole part told.fired e d both;
  }

  module _ (whole part : List Event) (fired : FiredAlike q o image (firings_so_far q whole) (firings_so_far r part)) where
    pub candidates_alike : (y : Place × List Datum) → IsOfBoth q o image whole part y → candidates q (place_moved m y.0) (map (moved m) y.1) (firings_so_far q whole) ≡ map (firing_moved m) (candidates r y.0 y.1 (firings_so_far r part))
    candidates_alike y is =
        let p : Place = place_moved m y.0 in
        let all : List Datum = map (moved m) y.1 in
        image.finds.standing whole p all is.counts is.first.1 is.first.0
        ∙ ap (candidates q p all) fired
        ∙ candidates_moved m q y.0 y.1 (filter (fired_at image.there) (firings_so_far r part))
        ∙ ap (map (firing_moved m)) (sym (image.finds_there.standing part y.0 y.1 is.counts_there is.second.1 is.second.0))

    pub standing_alike : (y : Place × List Datum) → IsOfBoth q o image whole part y → standing q (firings_so_far q whole) (place_moved m y.0) (map (moved m) y.1) ≡ option_map (firing_moved m) (standing r (firings_so_far r part) y.0 y.1)
    standing_alike y is = ap greatest_of (candidates_alike y is) ∙ greatest_moved m (candidates r y.0 y.1 (firings_so_far r part))

    pub stand_alike : (xs ys : List (Place × List Datum)) → PanesAlike q o image xs ys → AllByRecursion (IsPane q whole) xs → AllByRecursion (IsPane r part) ys →
        standing_for q whole (filter (is_pane_at image.here) xs) ≡ map (firing_moved m) (standing_for r part (filter (is_pane_at image.there) ys))
    stand_alike xs ys alike in_first in_second =
        let zs : List (Place × List Datum) = filter (is_pane_at image.there) ys in
        ap (filter_map (λ y. standing q (firings_so_far q whole) y.0 y.1)) alike
        ∙ filter_map-image (λ y. standing q (firings_so_far q whole) y.0 y.1) (pane_moved m) (λ y. standing r (firings_so_far r part) y.0 y.1) (firing_moved m) zs
        (all-each (IsOfBoth q o image whole part) (λ y. standing q (firings_so_far q whole) (place_moved m y.0) (map (moved m) y.1) ≡ option_map (firing_moved m) (standing r (firings_so_far r part) y.0 y.1)) zs standing_alike
        (of_both q o image whole part xs ys alike in_first in_second))

  -- for panes that live at a mark
  abbrev live : Query → List Event → ℤ → List (Place × List Datum)
  live s past w = filter (λ y. is_live_at s w y.0) (panes s past)

  stand_live : (whole part : List Event) → Told q o image whole part → (w v : ℤ) → v ≡ w → standing_for q whole (filter (is_pane_at image.here) (live q whole w)) ≡ map (firing_moved m) (standing_for r part (filter (is_pane_at image.there) (live r part v)))
  stand_live whole part told w v same =
      stand_alike whole part told.fired (live q whole w) (live r part v) (live_alike q o image (panes q whole) (panes r part) told.panes w v same)
      (filter-all (IsPane q whole) (λ y. is_live_at q w y.0) (panes q whole) (each_pane q whole)) (filter-all (IsPane r part) (λ y. is_live_at r v y.0) (panes r part) (each_pane r part))

  pub held_alike : (whole part : List Event) → Told q o image whole part → PanesAlike q o image (held q whole) (held r part)
  held_alike whole part told = live_alike q o image (panes q whole) (panes r part) told.panes (mark q whole) (mark r part) told.marks

  module _ (whole part : List Event) (e : Event) (told : Told q o image whole part) where
    abbrev stood : List Firing
    stood = standing_for r part (filter (is_pane_at image.there) (held r part))

    gone_by : (after : List Event) → Told q o image (e ∷ whole) after →
        gone_at q image.here whole e ≡ map (firing_moved m) (filter (λ g. not (list_any (is_same g) (standing_for r after (filter (is_pane_at image.there) (live r after (mark r part)))))) stood)
    gone_by after next =
        (λ i. filter (λ g. not (list_any (is_same g) (stand_live (e ∷ whole) after next (mark q whole) (mark r part) told.marks i))) (stand_live whole part told (mark q whole) (mark r part) told.marks i))
        ∙ gone_moved m (standing_for r after (filter (is_pane_at image.there) (live r after (mark r part)))) stood

    -- where both have it, and where the second lacks it
    pub gone_alike : (d : Event) → Told q o image (e ∷ whole) (d ∷ part) → gone_at q image.here whole e ≡ map (firing_moved m) (gone_at r image.there part d)
    gone_alike d next = gone_by (d ∷ part) next

    pub gone_none : Told q o image (e ∷ whole) part → gone_at q image.here whole e ≡ []
    gone_none next = gone_by part next ∙ ap (map (firing_moved m)) (all_stay stood)
