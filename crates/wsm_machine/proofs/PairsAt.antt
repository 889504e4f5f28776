-- A test of two lists, element by element, that looks at the place too, and a loop that makes it.
use Rattle.std.proofs.Common.{◌≡◌, ◌≢◌, ◌∙◌, ◌&&◌, ℕ, suc, Bool, true, false, List, [], ◌∷◌, length, ap, refl}
use Rattle.std.proofs.Math.Bool.{and-false}

-- two lists of one length whose elements pass a test two by two, the first ones that at place n
pub record TestsAt {A B : Type 0} (test : ℕ → A → B → Bool) (f : ℕ → List A → List B → Bool) : Type 0 where
  pub none : (n : ℕ) → f n [] [] ≡ true
  pub more : (n : ℕ) (x : A) (y : B) (xs : List A) (ys : List B) → f n (x ∷ xs) (y ∷ ys) ≡ (test n x y && f (suc n) xs ys)
  pub too_few : (n : ℕ) (x : A) (xs : List A) → f n (x ∷ xs) [] ≡ false
  pub too_many : (n : ℕ) (y : B) (ys : List B) → f n [] (y ∷ ys) ≡ false

module _ {A B : Type 0} {test : ℕ → A → B → Bool} {f : ℕ → List A → List B → Bool} (pairs : TestsAt test f) where
  -- of two lengths
  pub unequal_at : (n : ℕ) (xs : List A) (ys : List B) → length xs ≢ length ys → f n xs ys ≡ false
  unequal_at n [] [] h = absurd (h refl)
  unequal_at n [] (y ∷ ys) h = pairs.too_many n y ys
  unequal_at n (x ∷ xs) [] h = pairs.too_few n x xs
  unequal_at n (x ∷ xs) (y ∷ ys) h =
      pairs.more n x y xs ys ∙ ap (λ (b : Bool). test n x y && b) (unequal_at (suc n) xs ys (λ e. h (ap suc e))) ∙ and-false (test n x y)
