-- The panes that a limit leaves are those from the first that ends after it on, and those that are live.
use Rattle.std.proofs.Common.{◌≡◌, ℕ, zero, suc, ◌+◌, true, false, cond, T, None, Some, [], ◌∷◌, drop, refl, sym, ap, ◌∙◌, inl, inr, arith}
use Rattle.std.proofs.lemmas.Int.{ints}
use Rattle.std.specs.Prelude.{ℤ, ◌≤ℤ◌, ◌<ℤ◌, int_lt, slice_get}
use Rattle.std.specs.List.{AllByRecursion}
use Rattle.std.specs.Ordering.{is_lt}
use Rattle.std.specs.FinMap.Entries.{where_key, is_sorted, below_all}
use Rattle.wsm_windows.specs.declared.place.Place.{Place}
use Rattle.wsm_windows.specs.declared.window.Window.{Window}
use Rattle.wsm_windows.specs.Life.{is_live}
use Rattle.wsm_windows.specs.Places.{place_cmp, window_of}
use Rattle.wsm_windows.specs.Windows.{IsPlaced}
use Rattle.wsm_semantics.specs.Summaries.{Pane}
use Rattle.wsm_list.proofs.Ended.{ends_in_order}
use Rattle.wsm_slots.proofs.Order.{lesser}
use Rattle.wsm_slots.specs.Walk.{place_due}
use Rattle.wsm_firing.proofs.AtPlace.{first_of, second_of}
use Rattle.wsm_firing.proofs.Walk.{rest_at, rest_due}
use Rattle.wsm_firing.proofs.StandingRows.{Folded, Panes}

module _ (limit : ℤ) where
  -- the panes that are left
  abbrev pub left : Panes → Panes
  left es = where_key place_cmp (λ p. int_lt limit p.end) es

  all_stay : (p : Place) (es : Panes) → T (below_all place_cmp p es) → limit <ℤ p.end → left es ≡ es
  all_stay p [] below far = refl
  all_stay p (e ∷ es) below far =
      let order : p.end ≤ℤ e.0.end = ends_in_order p e.0 (lesser _ (first_of (is_lt (place_cmp p e.0)) (below_all place_cmp p es) below)) in
      let stays : int_lt limit e.0.end ≡ true = grind (arith, ints, order, far) in
      rw stays (ap (λ (fs : Panes). e ∷ fs) (all_stay p es (second_of (is_lt (place_cmp p e.0)) (below_all place_cmp p es) below) far))

  pub rest_left : (es : Panes) (i : ℕ) (e : Place × Pane Folded) → T (is_sorted place_cmp es) → slice_get es i ≡ Some e → limit <ℤ e.0.end → left (drop i es) ≡ drop i es
  rest_left [] i e sorted at far = absurd (cc)
  rest_left (x ∷ es) zero e sorted at far =
      let same : x ≡ e = cc in
      let near : limit <ℤ x.0.end = rw same far in
      let stays : int_lt limit x.0.end ≡ true = grind (arith, ints, near) in
      rw stays (ap (λ (fs : Panes). x ∷ fs) (all_stay x.0 es (first_of (below_all place_cmp x.0 es) (is_sorted place_cmp es) sorted) near))
  rest_left (x ∷ es) (suc i) e sorted at far = rest_left es i e (second_of (below_all place_cmp x.0 es) (is_sorted place_cmp es) sorted) at far

  pub next_goes : (es : Panes) (i : ℕ) (e : Place × Pane Folded) → slice_get es i ≡ Some e → int_lt limit e.0.end ≡ false → left (drop i es) ≡ left (drop (i + 1) es)
  next_goes es i e at past = ap left (rest_at es i e at) ∙ ap (λ b. cond b (e ∷ left (drop (i + 1) es)) (left (drop (i + 1) es))) past

  -- where a walk comes to its end
  pub none_goes : (es : Panes) (i : ℕ) → T (is_sorted place_cmp es) → place_due limit (slice_get es i) ≡ None → left (drop i es) ≡ drop i es
  none_goes es i sorted none = elim (rest_due limit es i none) [
    | inl past ↦ ap left past ∙ sym past
    | inr e ↦ rest_left es i e.0 sorted e.1 e.2
  ]

  -- where those are live whose end is past the limit
  pub live_left : (lateness mark : ℤ) → ((w : Window) → IsPlaced w → int_lt limit w.end ≡ is_live w lateness mark) → (es : Panes) → AllByRecursion (λ e. IsPlaced (window_of e.0)) es → left es ≡ where_key place_cmp (λ p. is_live (window_of p) lateness mark) es
  live_left lateness mark same [] placed = refl
  live_left lateness mark same (e ∷ es) placed = λ i. cond (same (window_of e.0) placed.0 i) (e ∷ live_left lateness mark same es placed.1 i) (live_left lateness mark same es placed.1 i)
