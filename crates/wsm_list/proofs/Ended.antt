-- How many of the first entries have a window that ends by a time.
use Rattle.std.proofs.Common.{◌≡◌, ℕ, zero, suc, ◌<◌, ◌≤◌, true, false, cond, T, List, [], ◌∷◌, drop, length, get_or, refl, inl, inr, ap, arith}
use Rattle.std.proofs.lemmas.Bool.{cases_Bool}
use Rattle.std.proofs.lemmas.Int.{ints}
use Rattle.std.specs.Prelude.{ℤ, ◌≤ℤ◌, filter, slice_get}
use Rattle.std.specs.declared.cmp.Ordering.{Ordering}
use Rattle.std.specs.declared.cmp.Ordering.TheVariants.{Less, Equal, Greater}
use Rattle.std.specs.FinMap.{is_sorted}
use Rattle.std.specs.FinMap.Entries.{below_all}
use Rattle.std.specs.Ordering.{int_cmp, is_lt, ordering_then}
use Rattle.wsm_windows.specs.declared.place.Place.{Place}
use Rattle.wsm_windows.specs.Places.{place_cmp}
use Rattle.wsm_slots.specs.Place.{is_kept}
use Rattle.wsm_slots.specs.Walk.{first_past}
use Rattle.wsm_list.proofs.Sorted.{less_at}
use Rattle.wsm_slots.proofs.Order.{lesser, first_of_and, second_of_and}

first_less : (o next : Ordering) → ordering_then o next ≡ Less → is_lt o ≡ false → o ≡ Equal
first_less Less next h n = absurd (cc)
first_less Equal next h n = refl
first_less Greater next h n = absurd (cc)

tied : (x y : ℤ) → int_cmp x y ≡ Equal → x ≡ y
tied x y h = grind (arith, ints)

pub ends_in_order : (p r : Place) → place_cmp p r ≡ Less → p.end ≤ℤ r.end
ends_in_order p r less =
    elim (is_lt (int_cmp p.end r.end)) as (λ b. is_lt (int_cmp p.end r.end) ≡ b → p.end ≤ℤ r.end) [
      | true ↦ λ h. grind (arith, ints)
      | false ↦ λ h. let same : p.end ≡ r.end = tied p.end r.end (first_less (int_cmp p.end r.end) _ less h) in omega (arith, ints)
    ] refl

module _ {P : Type 0} (time : ℤ) where
  abbrev pub ended : List (Place × P) → ℕ
  ended [] = 0
  ended (e ∷ es) = cond (is_kept time e.0) 0 (suc (ended es))

  pub past_nth : (es : List (Place × P)) → first_past time es ≡ slice_get es (ended es)
  past_nth [] = refl
  past_nth (e ∷ es) = elim (cases_Bool (is_kept time e.0)) [ inl kept ↦ rw kept refl | inr gone ↦ rw gone (past_nth es) ]

  pub ended_within : (es : List (Place × P)) → ended es ≤ length es
  ended_within [] = omega arith
  ended_within (e ∷ es) = elim (cases_Bool (is_kept time e.0)) [ inl kept ↦ rw kept (omega arith) | inr gone ↦ rw gone (omega (arith, ended_within es)) ]

  -- one that ends past the time is none of them
  pub ended_stops : (es : List (Place × P)) (i : ℕ) (d : Place × P) → i < length es → is_kept time (get_or es i d).0 ≡ true → ended es ≤ i
  ended_stops [] i d within kept = absurd (omega arith)
  ended_stops (e ∷ es) zero d within kept = rw kept (omega arith)
  ended_stops (e ∷ es) (suc i) d within kept =
      let rest : ended es ≤ i = ended_stops es i d (omega arith) kept in
      elim (cases_Bool (is_kept time e.0)) [ inl now ↦ rw now (omega arith) | inr gone ↦ rw gone (omega (arith, rest)) ]

  -- one that doesn't is one of them, where entries are in order
  pub ended_passes : (es : List (Place × P)) (i : ℕ) (d : Place × P) → T (is_sorted place_cmp es) → i < length es → is_kept time (get_or es i d).0 ≡ false → i < ended es
  ended_passes [] i d sorted within gone = absurd (omega arith)
  ended_passes (e ∷ es) zero d sorted within gone = rw gone (omega arith)
  ended_passes (e ∷ es) (suc i) d sorted within gone =
      let order : e.0.end ≤ℤ (get_or es i d).0.end = ends_in_order e.0 (get_or es i d).0 (less_at place_cmp e.0 es i d (first_of_and (below_all place_cmp e.0 es) _ sorted) (omega arith)) in
      let rest : i < ended es = ended_passes es i d (second_of_and (below_all place_cmp e.0 es) _ sorted) (omega arith) gone in
      elim (cases_Bool (is_kept time e.0)) [
        | inl kept ↦ let bad : true ≡ false = sym_kept e.0 (get_or es i d).0 kept order gone in absurd (cc)
        | inr now ↦ rw now (omega (arith, rest))
      ]
    where
      sym_kept : (p r : Place) → is_kept time p ≡ true → p.end ≤ℤ r.end → is_kept time r ≡ false → true ≡ false
      sym_kept p r kept order gone = grind (arith, ints)

  -- all that is behind one that ends past the time does too
  all_kept : (p : Place) (es : List (Place × P)) → is_kept time p ≡ true → T (below_all place_cmp p es) → filter (λ e. is_kept time e.0) es ≡ es
  all_kept p [] kept below = refl
  all_kept p (e ∷ es) kept below =
      let order : p.end ≤ℤ e.0.end = ends_in_order p e.0 (lesser (place_cmp p e.0) (first_of_and (is_lt (place_cmp p e.0)) _ below)) in
      rw (later p e.0 kept order) (ap (λ fs. e ∷ fs) (all_kept p es kept (second_of_and (is_lt (place_cmp p e.0)) _ below)))
    where
      later : (p r : Place) → is_kept time p ≡ true → p.end ≤ℤ r.end → is_kept time r ≡ true
      later p r kept order = grind (arith, ints)

  -- they come first
  pub ended_left : (es : List (Place × P)) → T (is_sorted place_cmp es) → filter (λ e. is_kept time e.0) es ≡ drop (ended es) es
  ended_left [] sorted = refl
  ended_left (e ∷ es) sorted = elim (cases_Bool (is_kept time e.0)) [
    | inl kept ↦ rw kept (ap (λ fs. e ∷ fs) (all_kept e.0 es kept (first_of_and (below_all place_cmp e.0 es) _ sorted)))
    | inr gone ↦ rw gone (ended_left es (second_of_and (below_all place_cmp e.0 es) _ sorted))
  ]
