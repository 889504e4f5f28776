-- What one turn leaves of the panes that are held, and that it fires nothing, where its event does
-- nothing.
use Rattle.std.proofs.Common.{◌≡◌, ℕ, true, false, ◌&&◌, cond, List, [], ◌∷◌, ◌++◌, map, length, ℤ, ◌+ℤ◌, Some, None, refl, ap, ◌∙◌, arith}
use Rattle.std.proofs.lemmas.Int.{ints}
use Rattle.std.proofs.lemmas.Bool.{and_parts}
use Rattle.std.specs.Prelude.{filter, filter_map, flat_map, int_lt, int_le, nat_lt}
use Rattle.wsm_record.specs.Event.{Event}
use Rattle.wsm_windows.specs.declared.place.Place.{Place}
use Rattle.wsm_windows.specs.declared.window.PaneKind.TheVariants.{OnTime, Final}
use Rattle.wsm_windows.specs.declared.window.Window.{Window}
use Rattle.wsm_windows.specs.declared.window.Shape.{Shape}
use Rattle.wsm_windows.specs.declared.window.Shape.TheVariants.{Fixed, Sliding, Session}
use Rattle.wsm_windows.specs.Windows.{has_inside}
use Rattle.wsm_windows.specs.Places.{at, window_of}
use Rattle.wsm_semantics.specs.Query.{Query, Datum, Effect, Nothing, effect_of, mark, selected, selection_of}
use Rattle.wsm_semantics.specs.Panes.{is_there, stands_in, places, contents, panes, held, is_live_at, windows_among, with_contents}
use Rattle.wsm_semantics.specs.Firings.{firings, fire, is_shown, kind_on_watermark}
use Rattle.wsm_semantics.proofs.Lists.{filter_map_none}

stands_inside : (s : Shape) (l : ℤ) (w : Window) (d : Datum) → stands_in s l w d ≡ true → has_inside d.time w ≡ true
stands_inside (Fixed size) l w d h = (and_parts _ _ h).0
stands_inside (Sliding size period) l w d h = (and_parts _ _ h).0
stands_inside (Session gap) l w d h = h

-- a record is inside each window that it stands in
pub inside_there : (q : Query) (p : Place) (d : Datum) → is_there q p d ≡ true → has_inside d.time (window_of p) ≡ true
inside_there q p d h = stands_inside q.shape q.clock.lateness (window_of p) d (and_parts _ _ h).1

-- the panes of some selected records
abbrev panes_of : Query → List Datum → List (Place × List Datum)
panes_of q ds = with_contents (λ p. filter (is_there q p) ds) (flat_map (λ d. map (at d.key) (windows_among q.shape q.clock.lateness ds d)) ds)

module _ (q : Query) (past : List Event) where
  pub panes-same : (e : Event) → selection_of q past e ≡ [] → panes q (e ∷ past) ≡ panes q past
  panes-same e none = ap (λ (ds : List Datum). panes_of q (ds ++ selected q past)) none

  pub places-same : (e : Event) → selection_of q past e ≡ [] → places q (e ∷ past) ≡ places q past
  places-same e none = ap (λ (ds : List Datum). flat_map (λ d. map (at d.key) (windows_among q.shape q.clock.lateness (ds ++ selected q past) d)) (ds ++ selected q past)) none

  pub contents-same : (e : Event) → selection_of q past e ≡ [] → (p : Place) → contents q (e ∷ past) p ≡ contents q past p
  contents-same e none p = ap (λ (ds : List Datum). filter (is_there q p) (ds ++ selected q past)) none

  -- an event that selects nothing and leaves the watermark leaves the panes that are held
  pub held-same : (e : Event) → selection_of q past e ≡ [] → mark q (e ∷ past) ≡ mark q past → held q (e ∷ past) ≡ held q past
  held-same e none same = λ i. filter (λ p. is_live_at q (same i) p.0) (panes-same e none i)

  not_between : (m e : ℤ) → (int_lt m e && int_le e m) ≡ false
  not_between m e = grind (arith, ints)

  -- where the watermark stays nothing fires by it
  pub idle : (m : ℤ) (p : Place) (fired unshown : ℕ) → kind_on_watermark q m m p fired unshown ≡ None
  idle m p fired unshown =
      λ i. cond (not_between m p.end i && nat_lt 0 fired) (Some OnTime) (cond (not_between m (p.end +ℤ q.clock.lateness) i && nat_lt 0 unshown) (Some Final) None)

  -- an event that does nothing fires nothing
  pub firings-nothing : (e : Event) → effect_of q past e ≡ Nothing → firings q past e ≡ []
  firings-nothing e none =
      ap (λ (x : Effect). filter_map (λ p. fire (is_shown q past p.0) q (length past) x p.0 p.1) (panes q (e ∷ past))) none
      ∙ filter_map_none (λ p. fire (is_shown q past p.0) q (length past) Nothing p.0 p.1) (panes q (e ∷ past)) (λ p. refl)
