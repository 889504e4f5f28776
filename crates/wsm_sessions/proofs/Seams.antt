-- Lists in two parts, read and edited where the second begins.
use Rattle.std.proofs.Common.{◌≡◌, ℕ, zero, suc, ◌<◌, ◌≤◌, Bool, true, false, ◌||◌, cond, List, [], ◌∷◌, ◌++◌, length, get_or, refl, sym, ap, ◌∙◌, arith}
use Rattle.std.proofs.Math.Seq.{take-append_seam, drop-append_seam}
use Rattle.std.specs.Prelude.{filter, insert, slice_set}
use Rattle.std.specs.List.{list_any}
use Rattle.std.specs.List.Sorted.{IsPartitionPoint}

module _ {A : Type 0} where
  -- those that pass come first, and are so many
  pub point_count : (p : A → Bool) (xs : List A) (i : ℕ) → IsPartitionPoint (λ y. p y ≡ true) (λ y. p y ≡ false) xs i → i ≤ length xs → length (filter p xs) ≡ i
  point_count p [] zero h le = refl
  point_count p [] (suc i) h le = absurd (omega arith)
  point_count p (x ∷ xs) zero h le =
      ap (λ (b : Bool). length (cond b (x ∷ filter p xs) (filter p xs))) (h.1 0 x (omega arith) (omega arith))
      ∙ point_count p xs 0 ((λ k d a b. absurd (omega arith)), (λ k d a b. h.1 (suc k) d (omega arith) (omega arith))) (omega arith)
  point_count p (x ∷ xs) (suc i) h le =
      ap (λ (b : Bool). length (cond b (x ∷ filter p xs) (filter p xs))) (h.0 0 x (omega arith) (omega arith))
      ∙ ap suc (point_count p xs i ((λ k d a b. h.0 (suc k) d (omega arith) (omega arith)), (λ k d a b. h.1 (suc k) d (omega arith) (omega arith))) (omega arith))

  -- one that passes is among those that pass
  pub any_passes : (p : A → Bool) (xs : List A) → list_any p xs ≡ list_any p (filter p xs)
  any_passes p [] = refl
  any_passes p (x ∷ xs) = elim (p x) as (λ b. p x ≡ b → (b || list_any p xs) ≡ list_any p (cond b (x ∷ filter p xs) (filter p xs))) [
    | true ↦ λ h. sym (ap (λ (b : Bool). b || list_any p (filter p xs)) h)
    | false ↦ λ h. any_passes p xs
  ] refl

  pub insert_seam : (xs ys : List A) (x : A) → insert (xs ++ ys) (length xs) x ≡ xs ++ x ∷ ys
  insert_seam xs ys x = λ i. take-append_seam xs ys i ++ x ∷ drop-append_seam xs ys i

  pub get_seam : (xs ys : List A) (y d : A) → get_or (xs ++ y ∷ ys) (length xs) d ≡ y
  get_seam [] ys y d = refl
  get_seam (x ∷ xs) ys y d = get_seam xs ys y d

  pub get_behind : (xs ys : List A) (y z d : A) → get_or (xs ++ y ∷ z ∷ ys) (suc (length xs)) d ≡ z
  get_behind [] ys y z d = refl
  get_behind (x ∷ xs) ys y z d = get_behind xs ys y z d

  pub set_seam : (xs ys : List A) (y z : A) → slice_set (xs ++ y ∷ ys) (length xs) z ≡ xs ++ z ∷ ys
  set_seam [] ys y z = refl
  set_seam (x ∷ xs) ys y z = ap (λ (zs : List A). x ∷ zs) (set_seam xs ys y z)

  pub within_seam : (xs ys : List A) (y : A) → length xs < length (xs ++ y ∷ ys)
  within_seam [] ys y = omega arith
  within_seam (x ∷ xs) ys y = let h = within_seam xs ys y in omega (arith, h)

  pub within_behind : (xs ys : List A) (y z : A) → suc (length xs) < length (xs ++ y ∷ z ∷ ys)
  within_behind [] ys y z = omega arith
  within_behind (x ∷ xs) ys y z = let h = within_behind xs ys y z in omega (arith, h)
