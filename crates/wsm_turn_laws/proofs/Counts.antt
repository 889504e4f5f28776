-- How many of a list pass a test.
use Rattle.std.proofs.Common.{◌≡◌, ◌≤◌, ◌<◌, ◌+◌, ℕ, Bool, true, false, ◌&&◌, ◌||◌, cond, List, [], ◌∷◌, ◌++◌, refl, sym, ap, ◌∙◌, arith}
use Rattle.std.proofs.lemmas.Bool.{true≢false}
use Rattle.std.proofs.lemmas.List.Sums.{sum_by-append, sum_by-cons}
use Rattle.std.proofs.lemmas.List.Sorted.{sum_by-IsPermutation}
use Rattle.std.specs.Prelude.{IsPermutation}
use Rattle.std.specs.List.{count_by, filter, list_any}

abbrev pub one_if : Bool → ℕ
one_if b = cond b 1 0

module _ {A : Type 0} where
  pub count-cons : (p : A → Bool) (x : A) (xs : List A) → count_by p (x ∷ xs) ≡ cond (p x) 1 0 + count_by p xs
  count-cons p x xs = sum_by-cons (λ x. cond (p x) 1 0) x xs

  pub count-append : (p : A → Bool) (xs ys : List A) → count_by p (xs ++ ys) ≡ count_by p xs + count_by p ys
  count-append p xs ys = sum_by-append (λ x. cond (p x) 1 0) xs ys

  pub count-permuted : (p : A → Bool) (xs ys : List A) → IsPermutation xs ys → count_by p ys ≡ count_by p xs
  count-permuted p xs ys h = sum_by-IsPermutation (λ x. cond (p x) 1 0) xs ys h

  pub count-each : (p r : A → Bool) → ((x : A) → p x ≡ r x) → (xs : List A) → count_by p xs ≡ count_by r xs
  count-each p r same xs = λ i. count_by (λ x. same x i) xs

  pub count-filter : (p f : A → Bool) (xs : List A) → count_by p (filter f xs) ≡ count_by (λ x. f x && p x) xs
  count-filter p f [] = refl
  count-filter p f (x ∷ xs) = one (f x) (count-filter p f xs) ∙ sym (count-cons (λ x. f x && p x) x xs)
    where
      one : (b : Bool) → count_by p (filter f xs) ≡ count_by (λ x. f x && p x) xs → count_by p (cond b (x ∷ filter f xs) (filter f xs)) ≡ cond (b && p x) 1 0 + count_by (λ x. f x && p x) xs
      one true h = count-cons p x (filter f xs) ∙ ap (λ (n : ℕ). cond (p x) 1 0 + n) h
      one false h = omega (arith, h)

  pub filter-fewer : (p f : A → Bool) (xs : List A) → count_by p (filter f xs) ≤ count_by p xs
  filter-fewer p f [] = omega arith
  filter-fewer p f (x ∷ xs) = let is = count-cons p x xs in let rest = one (f x) (filter-fewer p f xs) in omega (arith, is, rest)
    where
      one : (b : Bool) → count_by p (filter f xs) ≤ count_by p xs → count_by p (cond b (x ∷ filter f xs) (filter f xs)) ≤ cond (p x) 1 0 + count_by p xs
      one true h = let is = count-cons p x (filter f xs) in omega (arith, is, h)
      one false h = omega (arith, h)

  -- ---- some, or none

  pub some-counted : (p : A → Bool) (xs : List A) → list_any p xs ≡ true → 0 < count_by p xs
  some-counted p [] h = absurd (true≢false (sym h))
  some-counted p (x ∷ xs) h = let is = count-cons p x xs in let n = one (p x) (some-counted p xs) h in omega (arith, is, n)
    where
      one : (b : Bool) → (list_any p xs ≡ true → 0 < count_by p xs) → (b || list_any p xs) ≡ true → 0 < cond b 1 0 + count_by p xs
      one true f k = omega arith
      one false f k = let n = f k in omega (arith, n)

  pub none-counted : (p : A → Bool) (xs : List A) → list_any p xs ≡ false → count_by p xs ≡ 0
  none-counted p [] h = refl
  none-counted p (x ∷ xs) h = let is = count-cons p x xs in let n = one (p x) (none-counted p xs) h in omega (arith, is, n)
    where
      one : (b : Bool) → (list_any p xs ≡ false → count_by p xs ≡ 0) → (b || list_any p xs) ≡ false → cond b 1 0 + count_by p xs ≡ 0
      one true f k = absurd (true≢false k)
      one false f k = let n = f k in omega (arith, n)

  pub any-of_count : (p : A → Bool) (xs : List A) → 0 < count_by p xs → list_any p xs ≡ true
  any-of_count p xs h = one (list_any p xs) refl
    where
      one : (b : Bool) → list_any p xs ≡ b → b ≡ true
      one true is = refl
      one false is = let n = none-counted p xs is in absurd (omega (arith, n, h))

  pub none-of_count : (p : A → Bool) (xs : List A) → count_by p xs ≡ 0 → list_any p xs ≡ false
  none-of_count p xs h = one (list_any p xs) refl
    where
      one : (b : Bool) → list_any p xs ≡ b → b ≡ false
      one false is = refl
      one true is = let n = some-counted p xs is in absurd (omega (arith, n, h))
