-- Sums of whole numbers over lists, and such sums of parts.
use Rattle.std.proofs.Common.{◌≡◌, Bool, true, false, cond, List, [], ◌∷◌, ◌++◌, length, ℤ, pos, ◌+ℤ◌, refl, sym, ap, ◌∙◌, arith}
use Rattle.std.proofs.lemmas.Int.{ints}
use Rattle.std.specs.Prelude.{filter}
use Rattle.std.specs.List.{AllByRecursion}
use Rattle.wsm_semantics.specs.Amounts.{sum_of, many}

pub none_more : (a : ℤ) → (pos 0 +ℤ a) ≡ a
none_more a = omega (arith, ints)

pub one_alone : (a : ℤ) → (a +ℤ pos 0) ≡ a
one_alone a = omega (arith, ints)

put_in_front : (a b c d : ℤ) → b ≡ c +ℤ d → (a +ℤ b) ≡ ((a +ℤ c) +ℤ d)
put_in_front a b c d h = omega (arith, ints)

both_in_front : (a b c d e : ℤ) → c ≡ d +ℤ e → ((a +ℤ b) +ℤ c) ≡ ((a +ℤ d) +ℤ (b +ℤ e))
both_in_front a b c d e h = omega (arith, ints)

module _ {A : Type 0} where
  pub sum_of-append : (f : A → ℤ) (xs ys : List A) → sum_of f (xs ++ ys) ≡ sum_of f xs +ℤ sum_of f ys
  sum_of-append f [] ys = sym (none_more (sum_of f ys))
  sum_of-append f (x ∷ xs) ys = put_in_front (f x) (sum_of f (xs ++ ys)) (sum_of f xs) (sum_of f ys) (sum_of-append f xs ys)

  pub sum_of-plus : (f g : A → ℤ) (xs : List A) → sum_of (λ x. f x +ℤ g x) xs ≡ sum_of f xs +ℤ sum_of g xs
  sum_of-plus f g [] = refl
  sum_of-plus f g (x ∷ xs) = both_in_front (f x) (g x) (sum_of (λ x. f x +ℤ g x) xs) (sum_of f xs) (sum_of g xs) (sum_of-plus f g xs)

  pub sum_of-each : (f g : A → ℤ) (xs : List A) → AllByRecursion (λ x. f x ≡ g x) xs → sum_of f xs ≡ sum_of g xs
  sum_of-each f g [] h = refl
  sum_of-each f g (x ∷ xs) h = λ i. h.0 i +ℤ sum_of-each f g xs h.1 i

  pub sum_of-none : (xs : List A) → sum_of (λ x. pos 0) xs ≡ pos 0
  sum_of-none [] = refl
  sum_of-none (x ∷ xs) = none_more (sum_of (λ x. pos 0) xs) ∙ sum_of-none xs

  pub sum_of-filter : (f : A → ℤ) (t : A → Bool) (xs : List A) → sum_of f (filter t xs) ≡ sum_of (λ x. cond (t x) (f x) (pos 0)) xs
  sum_of-filter f t [] = refl
  sum_of-filter f t (x ∷ xs) =
      elim (t x) as (λ b. sum_of f (cond b (x ∷ filter t xs) (filter t xs)) ≡ cond b (f x) (pos 0) +ℤ sum_of (λ x. cond (t x) (f x) (pos 0)) xs) [
        | true ↦ ap (λ (s : ℤ). f x +ℤ s) (sum_of-filter f t xs)
        | false ↦ sum_of-filter f t xs ∙ sym (none_more (sum_of (λ x. cond (t x) (f x) (pos 0)) xs))
      ]

-- one more that is counted or isn't
pub many-one_more : {B : Type 0} (b : Bool) (y : B) (ys : List B) (x : ℤ) → (cond b x (pos 0) +ℤ many (length ys) x) ≡ many (length (cond b (y ∷ ys) ys)) x
many-one_more true y ys x = refl
many-one_more false y ys x = none_more (many (length ys) x)
