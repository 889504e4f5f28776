-- The panes of some keys hang on the records of these keys alone.
use Rattle.std.proofs.Common.{◌≡◌, ℕ, true, false, ◌||◌, List, [], ◌∷◌, map, ℤ, Some, refl, sym, ap, ◌∙◌}
use Rattle.std.proofs.lemmas.Bool.{true≢false, and_parts, false_from_ne_true}
use Rattle.std.specs.Prelude.{filter, nat_eq}
use Rattle.std.specs.List.{AllByRecursion}
use Rattle.std.specs.Ordering.{eq_by_cmp}
use Rattle.wsm_record.specs.Event.{Event}
use Rattle.wsm_windows.specs.declared.window.Window.{Window}
use Rattle.wsm_windows.specs.declared.window.Shape.{Shape}
use Rattle.wsm_windows.specs.declared.window.Shape.TheVariants.{Fixed, Sliding, Session}
use Rattle.wsm_windows.specs.Windows.{has_inside}
use Rattle.wsm_windows.specs.declared.place.Place.{Place}
use Rattle.wsm_windows.specs.Places.{place_cmp, at}
use Rattle.wsm_semantics.specs.Query.{Datum, Query, selected}
use Rattle.wsm_semantics.specs.Sessions.{sessions}
use Rattle.wsm_semantics.specs.Panes.{of_key, windows_among, is_there}
use Rattle.wsm_semantics.specs.ByKey.{Keys, is_at, is_of}
use Rattle.wsm_semantics.proofs.Lists.{filter_within}
use Rattle.wsm_semantics.proofs.Tables.{among}
use Rattle.wsm_semantics.proofs.Each.{same_key, list_any-append}
use Rattle.wsm_semantics.proofs.SessionPlaces.{other_key}
use Rattle.wsm_semantics.proofs.MovedPanes.{among_new, placed}
use Rattle.wsm_semantics.proofs.Counted.{AllPanes}
use Rattle.wsm_semantics.proofs.KeyTurns.{is_said, selected_own}

-- ---- records of some keys alone

module _ (keys : Keys) where
  of_key_alone : (k : ℕ) → keys (Some k) ≡ true → (ds : List Datum) → of_key k (filter (is_said keys) ds) ≡ of_key k ds
  of_key_alone k here ds =
      filter_within (λ d. nat_eq d.key k) (is_said keys) (λ d same. ap (λ (j : ℕ). keys (Some j)) (same_key d.key k same) ∙ here) ds

  -- the windows of a record hang on those of its key
  windows_alone : (shape : Shape) (l : ℤ) (ds : List Datum) (d : Datum) → is_said keys d ≡ true → windows_among shape l (filter (is_said keys) ds) d ≡ windows_among shape l ds d
  windows_alone (Fixed size) l ds d here = refl
  windows_alone (Sliding size period) l ds d here = refl
  windows_alone (Session gap) l ds d here = ap (λ (xs : List Datum). filter (has_inside d.time) (sessions gap (map (λ x. x.time) xs))) (of_key_alone d.key here ds)

  -- no record of another key stands there
  elsewhere : (p : Place) (k : ℕ) → (p.key ≡ k → true ≡ false) → (ws : List Window) → among p (map (at k) ws) ≡ false
  elsewhere p k other ws = other_key p k ws (false_from_ne_true (nat_eq k p.key) (λ same. true≢false (other (sym (same_key k p.key same)))))

  pub among_alone : (shape : Shape) (l : ℤ) (p : Place) → is_at keys p ≡ true → (ds : List Datum) → among p (placed shape l (filter (is_said keys) ds) (filter (is_said keys) ds)) ≡ among p (placed shape l ds ds)
  among_alone shape l p here ds =
      among_new (is_said keys) p (λ d. map (at d.key) (windows_among shape l (filter (is_said keys) ds) d)) (λ d. map (at d.key) (windows_among shape l ds d))
      (λ d said. ap (λ (ws : List Window). among p (map (at d.key) ws)) (windows_alone shape l ds d said))
      (λ d away. elsewhere p d.key (λ same. sym (ap (λ (k : ℕ). keys (Some k)) (sym same) ∙ here) ∙ away) (windows_among shape l ds d))
      ds

  -- records of the keys stand at places of the keys
  among_own : (shape : Shape) (l : ℤ) (p : Place) → is_at keys p ≡ false → (ds xs : List Datum) → AllByRecursion (λ d. is_said keys d ≡ true) xs → among p (placed shape l ds xs) ≡ false
  among_own shape l p other ds [] all = refl
  among_own shape l p other ds (x ∷ xs) all =
      list_any-append (eq_by_cmp place_cmp p) (map (at x.key) (windows_among shape l ds x)) (placed shape l ds xs)
      ∙ (λ i. elsewhere p x.key (λ same. sym all.0 ∙ ap (λ (k : ℕ). keys (Some k)) (sym same) ∙ other) (windows_among shape l ds x) i || among_own shape l p other ds xs all.1 i)

  pub panes_own : (q : Query) (past : List Event) → AllByRecursion (λ e. is_of keys e ≡ true) past → AllPanes q (is_at keys) past
  panes_own q past all y is =
      elim (is_at keys y.0) as (λ b. is_at keys y.0 ≡ b → b ≡ true) [
        | true ↦ λ _. refl
        | false ↦ λ other. absurd (true≢false (sym is.1 ∙ among_own q.shape q.clock.lateness y.0 other (selected q past) (selected q past) (selected_own q keys past all)))
      ] refl

  -- what stands at a place is of its key
  pub said_there : (q : Query) (p : Place) → is_at keys p ≡ true → (d : Datum) → is_there q p d ≡ true → is_said keys d ≡ true
  said_there q p here d there = ap (λ (k : ℕ). keys (Some k)) (same_key d.key p.key (and_parts _ _ there).0) ∙ here
