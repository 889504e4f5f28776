-- No pane that ends after a watermark fires by it, nor does any behind it.
use Rattle.std.proofs.Common.{◌≡◌, ℕ, zero, suc, Bool, true, false, ◌&&◌, cond, T, Some, None, List, [], ◌∷◌, drop, refl, sym, subst, ◌∙◌, inl, inr, arith}
use Rattle.std.proofs.lemmas.Int.{ints}
use Rattle.std.specs.Prelude.{ℤ, pos, ◌+ℤ◌, ◌≤ℤ◌, ◌<ℤ◌, int_lt, int_le, nat_lt, slice_get}
use Rattle.std.specs.List.{AllByRecursion}
use Rattle.std.specs.Ordering.{is_lt}
use Rattle.std.specs.FinMap.Entries.{is_sorted, below_all}
use Rattle.wsm_windows.specs.declared.window.PaneKind.TheVariants.{OnTime, Final}
use Rattle.wsm_windows.specs.declared.place.Place.{Place}
use Rattle.wsm_windows.specs.Places.{place_cmp}
use Rattle.wsm_semantics.specs.Query.{Query}
use Rattle.wsm_semantics.specs.Firings.{kind_on_watermark}
use Rattle.wsm_semantics.specs.Summaries.{Pane, kind_by_watermark}
use Rattle.wsm_list.proofs.Ended.{ends_in_order}
use Rattle.wsm_slots.proofs.Order.{lesser}
use Rattle.wsm_slots.specs.Walk.{place_due}
use Rattle.wsm_firing.proofs.AtPlace.{first_of, second_of}
use Rattle.wsm_firing.proofs.Walk.{rest_due}

never : (a b c d : Bool) → cond ((a && false) && b) (Some OnTime) (cond ((c && false) && d) (Some Final) None) ≡ None
never true b true d = refl
never true b false d = refl
never false b true d = refl
never false b false d = refl

module _ (q : Query) (prompt : pos 0 ≤ℤ q.clock.lateness) (old new : ℤ) where
  ahead : (p : Place) (n u : ℕ) → new <ℤ p.end → kind_on_watermark q old new p n u ≡ None
  ahead p n u far =
      let ends : int_le p.end new ≡ false = grind (arith, ints) in
      let expires : int_le (p.end +ℤ q.clock.lateness) new ≡ false = grind (arith, ints) in
      (λ i. cond ((int_lt old p.end && ends i) && nat_lt 0 n) (Some OnTime) (cond ((int_lt old (p.end +ℤ q.clock.lateness) && expires i) && nat_lt 0 u) (Some Final) None))
      ∙ never (int_lt old p.end) (nat_lt 0 n) (int_lt old (p.end +ℤ q.clock.lateness)) (nat_lt 0 u)

module _ {X : Type 0} (q : Query) (prompt : pos 0 ≤ℤ q.clock.lateness) (old new : ℤ) where
  abbrev IsStill : Place × Pane X → Type 0
  IsStill e = kind_by_watermark q old new e.0 e.1 ≡ None

  all_still : (p : Place) (es : List (Place × Pane X)) → T (below_all place_cmp p es) → new <ℤ p.end → AllByRecursion IsStill es
  all_still p [] below far = tt
  all_still p (e ∷ es) below far =
      let order : p.end ≤ℤ e.0.end = ends_in_order p e.0 (lesser _ (first_of (is_lt (place_cmp p e.0)) (below_all place_cmp p es) below)) in
      let further : new <ℤ e.0.end = omega (arith, ints) in
      (ahead q prompt old new e.0 _ e.1.unshown further, all_still p es (second_of (is_lt (place_cmp p e.0)) (below_all place_cmp p es) below) far)

  -- from the first that ends after the watermark on
  pub rest_still : (es : List (Place × Pane X)) (i : ℕ) (e : Place × Pane X) → T (is_sorted place_cmp es) → slice_get es i ≡ Some e → new <ℤ e.0.end → AllByRecursion IsStill (drop i es)
  rest_still [] i e sorted at far = absurd (cc)
  rest_still (x ∷ es) zero e sorted at far =
      let same : x ≡ e = cc in
      let near : new <ℤ x.0.end = rw same far in
      (ahead q prompt old new x.0 _ x.1.unshown near, all_still x.0 es (first_of (below_all place_cmp x.0 es) (is_sorted place_cmp es) sorted) near)
  rest_still (x ∷ es) (suc i) e sorted at far = rest_still es i e (second_of (below_all place_cmp x.0 es) (is_sorted place_cmp es) sorted) at far

  -- where a walk comes to its end
  pub none_due : (es : List (Place × Pane X)) (i : ℕ) → T (is_sorted place_cmp es) → place_due new (slice_get es i) ≡ None → AllByRecursion IsStill (drop i es)
  none_due es i sorted none = elim (rest_due new es i none) [
    | inl past ↦ subst (AllByRecursion IsStill) (sym past) tt
    | inr e ↦ rest_still es i e.0 sorted e.1 e.2
  ]
