-- The entry in a slot.
use Rattle.std.proofs.Common.{◌≡◌, true, false, Option, Some, None, refl, ℕ, zero, suc, replicate, sym, inl, inr}
use Rattle.std.specs.Option.{is_some}
use Rattle.wsm_windows.specs.declared.place.Place.{Place}
use Rattle.wsm_slots.specs.Slots.{pane_of, AreFree}
use Rattle.std.proofs.lemmas.Bool.{cases_Bool}
use Rattle.std.specs.Prelude.{option_map}
use Rattle.std.specs.Ordering.{eq_by_cmp}
use Rattle.wsm_windows.specs.Places.{place_cmp}
use Rattle.wsm_windows.proofs.Places.{tie_is}

pub some_found : {X : Type 0} (p : Place) (o : Option X) → is_some o ≡ true → Some p ≡ option_map (λ _. p) o
some_found p None some = let bad : false ≡ true = some in absurd (cc)
some_found p (Some x) some = refl

pub none_found : {X : Type 0} (p : Place) (o : Option X) → is_some o ≡ false → None ≡ option_map (λ _. p) o
none_found p None none = refl
none_found p (Some x) none = let bad : true ≡ false = none in absurd (cc)

module _ {P : Type 0} where
  -- a slot that tells a pane has the entry
  pub entry_of : (q : Place) (o : Option (Place × P)) (v : P) → pane_of q o ≡ Some v → o ≡ Some (q, v)
  entry_of q None v h = cc
  entry_of q (Some e) v h = elim (cases_Bool (eq_by_cmp place_cmp q e.0)) [
    | inl tie ↦
        let value : Some e.1 ≡ Some v = rw tie at h in
        let same : q ≡ e.0 = tie_is q e.0 tie in
        let pair : e.1 ≡ v = cc in
        λ i. Some (sym same i, pair i)
    | inr apart ↦ let bad : None ≡ Some v = rw apart at h in cc
  ]

  own_entry_of : (q : Place) (o : Option (Place × P)) (v : Option P) → pane_of q o ≡ v → is_some v ≡ true → (w : P) × (o ≡ Some (q, w))
  own_entry_of q o None is some = let bad : false ≡ true = some in absurd (cc)
  own_entry_of q o (Some w) is some = (w, entry_of q o w is)

  -- a slot that has a place's pane has its entry
  pub own_entry : (q : Place) (o : Option (Place × P)) → is_some (pane_of q o) ≡ true → (w : P) × (o ≡ Some (q, w))
  own_entry q o some = own_entry_of q o (pane_of q o) refl some

  pub free_replicate : (n : ℕ) → AreFree (replicate {A = Option (Place × P)} n None)
  free_replicate zero i x at = cc
  free_replicate (suc n) zero x at = cc
  free_replicate (suc n) (suc i) x at = free_replicate n i x at
