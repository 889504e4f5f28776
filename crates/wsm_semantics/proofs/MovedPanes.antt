-- The panes of records that are moved: those of the records, moved.
use Rattle.std.proofs.Common.{◌≡◌, ℕ, Bool, true, false, ◌&&◌, ◌||◌, cond, List, [], ◌∷◌, ◌++◌, map, ℤ, refl, sym, ap, ◌∙◌}
use Rattle.std.proofs.lemmas.List.{map-append}
use Rattle.std.specs.Prelude.{filter, flat_map, nat_eq}
use Rattle.std.specs.Ordering.{eq_by_cmp}
use Rattle.std.specs.declared.cmp.Ordering.TheVariants.{Less, Equal, Greater}
use Rattle.std.specs.FinMap.Entries.{put, by_order}
use Rattle.wsm_windows.specs.declared.window.Window.{Window}
use Rattle.wsm_windows.specs.declared.window.Shape.{Shape}
use Rattle.wsm_windows.specs.declared.window.Shape.TheVariants.{Fixed, Sliding, Session}
use Rattle.wsm_windows.specs.Windows.{has_inside}
use Rattle.wsm_windows.specs.declared.place.Place.{Place}
use Rattle.wsm_windows.specs.Places.{place_cmp, at, window_of}
use Rattle.wsm_semantics.specs.Query.{Datum, Query}
use Rattle.wsm_semantics.specs.Sessions.{sessions}
use Rattle.wsm_semantics.specs.Panes.{of_key, windows_among, stands_in, is_there, with_contents}
use Rattle.wsm_semantics.proofs.Lists.{filter_same}
use Rattle.wsm_semantics.proofs.Tables.{among}
use Rattle.wsm_semantics.proofs.Each.{filter-map, list_any-append, map-map}
use Rattle.wsm_semantics.proofs.PanesOrder.{contents_of, panes_of}
use Rattle.wsm_semantics.proofs.Moves.{Moves, moved, place_moved, pane_moved, key_moved, places_moved}

-- the places of some records, as their windows among some are
abbrev pub placed : Shape → ℤ → List Datum → List Datum → List Place
placed shape l ds xs = flat_map (λ d. map (at d.key) (windows_among shape l ds d)) xs

-- the places of those of some records that pass a test are those of all, where the others have none there
pub among_new : (new : Datum → Bool) (p : Place) (few all : Datum → List Place) → ((d : Datum) → new d ≡ true → among p (few d) ≡ among p (all d)) → ((d : Datum) → new d ≡ false → among p (all d) ≡ false) → (ds : List Datum) →
    among p (flat_map few (filter new ds)) ≡ among p (flat_map all ds)
among_new new p few all same none [] = refl
among_new new p few all same none (d ∷ ds) =
    elim (new d) as (λ b. new d ≡ b → among p (flat_map few (cond b (d ∷ filter new ds) (filter new ds))) ≡ (among p (all d) || among p (flat_map all ds))) [
      | true ↦ λ passes. list_any-append (eq_by_cmp place_cmp p) (few d) (flat_map few (filter new ds)) ∙ (λ i. same d passes i || among_new new p few all same none ds i)
      | false ↦ λ fails. among_new new p few all same none ds ∙ sym (ap (λ (b : Bool). b || among p (flat_map all ds)) (none d fails))
    ] refl
    ∙ sym (list_any-append (eq_by_cmp place_cmp p) (all d) (flat_map all ds))

module _ (m : Moves) where
  put_moved : (p : Place) (ds : List Datum) (es : List (Place × List Datum)) → put place_cmp (place_moved m p) (map (moved m) ds) (map (pane_moved m) es) ≡ map (pane_moved m) (put place_cmp p ds es)
  put_moved p ds [] = refl
  put_moved p ds (e ∷ es) =
      let new : Place × List Datum = pane_moved m (p, ds) in
      let rest : List (Place × List Datum) = map (pane_moved m) es in
      ap (λ o. by_order o (new ∷ pane_moved m e ∷ rest) ((place_moved m e.0, map (moved m) ds) ∷ rest) (pane_moved m e ∷ put place_cmp (place_moved m p) (map (moved m) ds) rest)) (places_moved m p e.0)
      ∙ elim (place_cmp p e.0) as (λ o. by_order o (new ∷ pane_moved m e ∷ rest) ((place_moved m e.0, map (moved m) ds) ∷ rest) (pane_moved m e ∷ put place_cmp (place_moved m p) (map (moved m) ds) rest)
      ≡ map (pane_moved m) (by_order o ((p, ds) ∷ e ∷ es) ((e.0, ds) ∷ es) (e ∷ put place_cmp p ds es))) [
        | Less ↦ refl
        | Equal ↦ refl
        | Greater ↦ ap (λ (fs : List (Place × List Datum)). pane_moved m e ∷ fs) (put_moved p ds es)
      ]

  filled_moved : (c other : Place → List Datum) → ((p : Place) → other (place_moved m p) ≡ map (moved m) (c p)) → (ps : List Place) → with_contents other (map (place_moved m) ps) ≡ map (pane_moved m) (with_contents c ps)
  filled_moved c other same [] = refl
  filled_moved c other same (p ∷ ps) = (λ i. put place_cmp (place_moved m p) (same p i) (filled_moved c other same ps i)) ∙ put_moved p (c p) (with_contents c ps)

  of_key_moved : (k : ℕ) (ds : List Datum) → of_key (m.key k) (map (moved m) ds) ≡ map (moved m) (of_key k ds)
  of_key_moved k ds =
      filter-map (moved m) (λ d. nat_eq d.key (m.key k)) ds
      ∙ ap (map (moved m)) (filter_same (λ d. nat_eq (m.key d.key) (m.key k)) (λ d. nat_eq d.key k) (λ d. key_moved m d.key k) ds)

  windows_moved : (shape : Shape) (l : ℤ) (ds : List Datum) (d : Datum) → windows_among shape l (map (moved m) ds) (moved m d) ≡ windows_among shape l ds d
  windows_moved (Fixed size) l ds d = refl
  windows_moved (Sliding size period) l ds d = refl
  windows_moved (Session gap) l ds d =
      ap (λ (ts : List ℤ). filter (has_inside d.time) (sessions gap ts)) (ap (map (λ x. x.time)) (of_key_moved d.key ds) ∙ map-map (λ x. x.time) (moved m) (of_key d.key ds))

  placed_moved : (shape : Shape) (l : ℤ) (ds xs : List Datum) → placed shape l (map (moved m) ds) (map (moved m) xs) ≡ map (place_moved m) (placed shape l ds xs)
  placed_moved shape l ds [] = refl
  placed_moved shape l ds (x ∷ xs) =
      (λ i. (ap (map (at (m.key x.key))) (windows_moved shape l ds x) ∙ sym (map-map (place_moved m) (at x.key) (windows_among shape l ds x))) i ++ placed_moved shape l ds xs i)
      ∙ sym (map-append (place_moved m) (map (at x.key) (windows_among shape l ds x)) (placed shape l ds xs))

  stands_moved : (shape : Shape) (l : ℤ) (w : Window) (d : Datum) → stands_in shape l w (moved m d) ≡ stands_in shape l w d
  stands_moved (Fixed size) l w d = refl
  stands_moved (Sliding size period) l w d = refl
  stands_moved (Session gap) l w d = refl

  contents_moved : (q : Query) (ds : List Datum) (p : Place) → contents_of q (map (moved m) ds) (place_moved m p) ≡ map (moved m) (contents_of q ds p)
  contents_moved q ds p =
      filter-map (moved m) (is_there q (place_moved m p)) ds
      ∙ ap (map (moved m)) (filter_same (λ d. is_there q (place_moved m p) (moved m d)) (is_there q p) (λ d i. key_moved m d.key p.key i && stands_moved q.shape q.clock.lateness (window_of p) d i) ds)

  pub panes_moved : (q : Query) (ds : List Datum) → panes_of q (map (moved m) ds) ≡ map (pane_moved m) (panes_of q ds)
  panes_moved q ds =
      ap (with_contents (contents_of q (map (moved m) ds))) (placed_moved q.shape q.clock.lateness ds ds)
      ∙ filled_moved (contents_of q ds) (contents_of q (map (moved m) ds)) (contents_moved q ds) (placed q.shape q.clock.lateness ds ds)
