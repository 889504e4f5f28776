-- A test of two lists, element by element, and a loop that makes it.
use Rattle.std.proofs.Common.{◌≡◌, ◌≢◌, ◌∙◌, ◌<◌, ◌+◌, ◌&&◌, ℕ, suc, Bool, true, false, List, [], ◌∷◌, length, drop, get_or, ap, ap₂, sym, refl, add-one}
use Rattle.std.proofs.Math.Seq.{drop-cons}
use Rattle.std.proofs.Math.Bool.{and-false}

-- two lists of one length whose elements pass a test two by two
pub record TestsPairs {A B : Type 0} (test : A → B → Bool) (f : List A → List B → Bool) : Type 0 where
  pub none : f [] [] ≡ true
  pub more : (x : A) (y : B) (xs : List A) (ys : List B) → f (x ∷ xs) (y ∷ ys) ≡ (test x y && f xs ys)
  pub too_few : (x : A) (xs : List A) → f (x ∷ xs) [] ≡ false
  pub too_many : (y : B) (ys : List B) → f [] (y ∷ ys) ≡ false

module _ {A B : Type 0} {test : A → B → Bool} {f : List A → List B → Bool} (pairs : TestsPairs test f) where
  -- of two lengths
  pub unequal : (xs : List A) (ys : List B) → length xs ≢ length ys → f xs ys ≡ false
  unequal [] [] h = absurd (h refl)
  unequal [] (y ∷ ys) h = pairs.too_many y ys
  unequal (x ∷ xs) [] h = pairs.too_few x xs
  unequal (x ∷ xs) (y ∷ ys) h =
      pairs.more x y xs ys ∙ ap (λ (b : Bool). test x y && b) (unequal xs ys (λ e. h (ap suc e))) ∙ and-false (test x y)

  -- the pair at i, and those after it
  pub next_pair : (xs : List A) (ys : List B) (i : ℕ) (d : A) (e : B) → i < length xs → i < length ys
      → f (drop i xs) (drop i ys) ≡ (test (get_or xs i d) (get_or ys i e) && f (drop (i + 1) xs) (drop (i + 1) ys))
  next_pair xs ys i d e h k =
      ap₂ f (drop-cons xs i d h) (drop-cons ys i e k)
      ∙ pairs.more (get_or xs i d) (get_or ys i e) (drop (suc i) xs) (drop (suc i) ys)
      ∙ ap (λ (n : ℕ). test (get_or xs i d) (get_or ys i e) && f (drop n xs) (drop n ys)) (sym (add-one i))

  -- a pair that fails, with those before it passed
  pub fails_at : (xs : List A) (ys : List B) (i : ℕ) (d : A) (e : B) → i < length xs → i < length ys → test (get_or xs i d) (get_or ys i e) ≡ false
      → f (drop i xs) (drop i ys) ≡ f xs ys → f xs ys ≡ false
  fails_at xs ys i d e h k bad so_far = sym so_far ∙ next_pair xs ys i d e h k ∙ ap (λ (b : Bool). b && f (drop (i + 1) xs) (drop (i + 1) ys)) bad

  -- a pair that passes
  pub passes_at : (xs : List A) (ys : List B) (i : ℕ) (d : A) (e : B) → i < length xs → i < length ys → test (get_or xs i d) (get_or ys i e) ≡ true
      → f (drop i xs) (drop i ys) ≡ f xs ys → f (drop (i + 1) xs) (drop (i + 1) ys) ≡ f xs ys
  passes_at xs ys i d e h k good so_far =
      sym (ap (λ (b : Bool). b && f (drop (i + 1) xs) (drop (i + 1) ys)) good) ∙ sym (next_pair xs ys i d e h k) ∙ so_far
