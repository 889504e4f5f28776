-- The entry that follows a place in a sorted list.
use Rattle.std.proofs.Common.{◌≡◌, ℕ, zero, suc, ◌<◌, true, T, Some, List, [], ◌∷◌, length, get_or, refl, sym, ap, ◌∙◌, inl, inr, subst, ◌+◌, arith}
use Rattle.std.specs.Prelude.{slice_get}
use Rattle.std.specs.declared.cmp.Ordering.TheVariants.{Less, Equal, Greater}
use Rattle.std.specs.FinMap.{is_sorted}
use Rattle.std.specs.FinMap.Entries.{below_all}
use Rattle.std.specs.Ordering.{is_lt, ordering_reverse}
use Rattle.std.proofs.lemmas.Option.{same_Some}
use Rattle.std.specs.Cmp.{tied_itself}
use Rattle.wsm_windows.specs.declared.place.Place.{Place}
use Rattle.wsm_windows.specs.Places.{place_cmp}
use Rattle.wsm_windows.proofs.Places.{places_total, places_exact}
use Rattle.wsm_list.specs.Search.{before, IsAt}
use Rattle.wsm_slots.specs.Walk.{following}
use Rattle.wsm_semantics.proofs.Tables.{cases_Ordering}
use Rattle.wsm_slots.proofs.Order.{lesser, first_of_and, second_of_and}

-- all entries are after a place that is below them
pub following_below : {P : Type 0} (p : Place) (es : List (Place × P)) → T (below_all place_cmp p es) → following p es ≡ slice_get es 0
following_below p [] below = refl
following_below p (e ∷ es) below = rw (lesser (place_cmp p e.0) (first_of_and (is_lt (place_cmp p e.0)) _ below)) refl

-- where one is, the next one
pub following_at : {P : Type 0} (p : Place) (es : List (Place × P)) (d : Place × P) → T (is_sorted place_cmp es) → before place_cmp p es < length es → (get_or es (before place_cmp p es) d).0 ≡ p → following p es ≡ slice_get es (suc (before place_cmp p es))
following_at p [] d sorted within same = absurd (omega arith)
following_at p (e ∷ es) d sorted within same = elim (cases_Ordering (place_cmp p e.0)) [
  | inl less ↦
      let here : e.0 ≡ p = rw less at same in
      let tie : Less ≡ Equal = sym less ∙ rw here (tied_itself places_total p) in
      absurd (cc)
  | inr rest ↦ elim rest [
    | inl tie ↦
        let here : e.0 ≡ p = sym (places_exact p e.0 tie) in
        let below : T (below_all place_cmp p es) = subst (λ q. T (below_all place_cmp q es)) here (first_of_and (below_all place_cmp e.0 es) _ sorted) in
        rw tie (following_below p es below)
    | inr more ↦
        let within' : suc (before place_cmp p es) < suc (length es) = rw more at within in
        let same' : (get_or es (before place_cmp p es) d).0 ≡ p = rw more at same in
        rw more (following_at p es d (second_of_and (below_all place_cmp e.0 es) _ sorted) (omega arith) same')
  ]
]

pub after_at : {P : Type 0} (p : Place) (es : List (Place × P)) (i : ℕ) → is_sorted place_cmp es ≡ true → IsAt es p i → following p es ≡ slice_get es (i + 1)
after_at p [] i sorted here = absurd (omega (arith, here.within))
after_at p (e ∷ es) i sorted here =
    let within : before place_cmp p (e ∷ es) < length (e ∷ es) = subst (λ n. n < length (e ∷ es)) here.stops here.within in
    let same : (get_or (e ∷ es) (before place_cmp p (e ∷ es)) e).0 ≡ p = subst (λ n. (get_or (e ∷ es) n e).0 ≡ p) here.stops (here.same e) in
    let next : suc (before place_cmp p (e ∷ es)) ≡ i + 1 = omega (arith, here.stops) in
    following_at p (e ∷ es) e (rw sorted tt) within same ∙ ap (slice_get (e ∷ es)) next

first_next : {P : Type 0} (x : Place × P) (es : List (Place × P)) → T (below_all place_cmp x.0 es) → following x.0 (x ∷ es) ≡ slice_get es 0
first_next x es below = rw (tied_itself places_total x.0) (following_below x.0 es below)

nth_above : {P : Type 0} (x : Place) (es : List (Place × P)) (i : ℕ) (e : Place × P) → T (below_all place_cmp x es) → slice_get es i ≡ Some e → place_cmp x e.0 ≡ Less
nth_above x [] i e below at = cc
nth_above x (f ∷ fs) zero e below at = subst (λ (y : Place × _). place_cmp x y.0 ≡ Less) (same_Some f e at) (lesser (place_cmp x f.0) (first_of_and (is_lt (place_cmp x f.0)) _ below))
nth_above x (f ∷ fs) (suc i) e below at = nth_above x fs i e (second_of_and (is_lt (place_cmp x f.0)) _ below) at

-- behind an entry of a sorted list comes the next one
pub following_nth : {P : Type 0} (es : List (Place × P)) (i : ℕ) (e : Place × P) → T (is_sorted place_cmp es) → slice_get es i ≡ Some e → following e.0 es ≡ slice_get es (suc i)
following_nth [] i e sorted at = cc
following_nth (x ∷ es) zero e sorted at = subst (λ (y : Place × _). following y.0 (x ∷ es) ≡ slice_get es 0) (same_Some x e at) (first_next x es (first_of_and (below_all place_cmp x.0 es) _ sorted))
following_nth (x ∷ es) (suc i) e sorted at =
    let above : place_cmp x.0 e.0 ≡ Less = nth_above x.0 es i e (first_of_and (below_all place_cmp x.0 es) _ sorted) at in
    let back : place_cmp e.0 x.0 ≡ Greater = places_total.antisymm e.0 x.0 ∙ ap ordering_reverse above in
    rw back (following_nth es i e (second_of_and (below_all place_cmp x.0 es) _ sorted) at)
