-- What stands in a list in which one element was put anew.
use Rattle.std.proofs.Common.{◌≡◌, ◌≢◌, ◌<◌, ◌∙◌, ◌∷◌, ◌++◌, get_or, length, [], ℕ, zero, suc, List, Some, refl, sym, ap, arith, inl, inr, ◌⊎◌}
use Rattle.std.specs.Prelude.{slice_get, slice_set}
use Rattle.std.proofs.lemmas.Option.{slice_get-get_or}

pub at_set : {A : Type 0} (xs : List A) (i k : ℕ) (y p : A) → slice_get (slice_set xs i y) k ≡ Some p → ((k ≡ i) × (p ≡ y)) ⊎ ((k ≢ i) × (slice_get xs k ≡ Some p))
at_set [] i k y p e = cc
at_set (x ∷ xs) zero zero y p e = inl (refl, cc)
at_set (x ∷ xs) zero (suc k) y p e = inr (λ z. cc z, e)
at_set (x ∷ xs) (suc i) zero y p e = inr (λ z. cc z, e)
at_set (x ∷ xs) (suc i) (suc k) y p e = elim (at_set xs i k y p e) [
  | inl (same, is) ↦ inl (ap suc same, is)
  | inr (other, is) ↦ inr (λ z. other (cc z), is)
]

pub set_there : {A : Type 0} (xs : List A) (i : ℕ) (y : A) → i < length xs → slice_get (slice_set xs i y) i ≡ Some y
set_there [] i y within = absurd (omega (arith, within))
set_there (x ∷ xs) zero y within = refl
set_there (x ∷ xs) (suc i) y within = set_there xs i y (omega (arith, within))

-- what stands in a list behind which one element was put
pub at_push : {A : Type 0} (xs : List A) (k : ℕ) (y p : A) → slice_get (xs ++ y ∷ []) k ≡ Some p → (p ≡ y) ⊎ (slice_get xs k ≡ Some p)
at_push [] zero y p e = inl cc
at_push [] (suc k) y p e = cc
at_push (x ∷ xs) zero y p e = inr e
at_push (x ∷ xs) (suc k) y p e = at_push xs k y p e

-- the element that a loop has in hand
pub there : {A : Type 0} (xs : List A) (i : ℕ) (x : A) → i < length xs → x ≡ get_or xs i x → slice_get xs i ≡ Some x
there xs i x within is = slice_get-get_or xs i x within ∙ ap Some (sym is)
