-- What is found by its number has it.
use Rattle.std.proofs.Common.{◌≡◌, ℕ, true, false, cond, List, [], ◌∷◌, Some, refl, sym, ap, ◌∙◌}
use Rattle.std.specs.Prelude.{◌==◌}
use Rattle.std.specs.List.{find}
use Rattle.std.proofs.lemmas.Bool.{eqb-true}

pub found_has_number : {A : Type 0} (number : A → ℕ) (n : ℕ) (x : A) (xs : List A) → find (λ y. number y == n) xs ≡ Some x → n ≡ number x
found_has_number number n x [] e = absurd cc
found_has_number number n x (y ∷ xs) e =
    elim (number y == n) as (λ b. (number y == n) ≡ b → cond b (Some y) (find (λ z. number z == n) xs) ≡ Some x → n ≡ number x) [
      | true ↦ λ t r. (let same : y ≡ x = cc in sym (eqb-true (number y) n t) ∙ ap number same)
      | false ↦ λ _ r. found_has_number number n x xs r
    ] refl e
