-- Folds of bags that are put together, or listed in another order.
use Rattle.std.proofs.Common.{◌≡◌, ℕ, zero, suc, ◌<◌, List, [], ◌∷◌, ◌++◌, length, get_or, set, Option, Some, None, refl, sym, ap, ◌∙◌, arith}
use Rattle.std.specs.Prelude.{IsPermutation}
use Rattle.std.proofs.lemmas.List.Edits.{swap_is}
use Rattle.std.proofs.lemmas.List.Sorted.{IsPermutation-keeps}
use Rattle.wsm_fold.specs.Laws.{joined_to, fold_by}

-- the first element, of a list that has one
first_of_list : {A : Type 0} (xs : List A) → 0 < length xs → A
first_of_list [] h = absurd (omega (arith, h))
first_of_list (x ∷ xs) h = x

module _ {A : Type 0} (op : A → A → A) (assoc : (x y z : A) → op (op x y) z ≡ op x (op y z)) where
  joined_to-append : (x w : A) (xs ys : List A) → fold_by op ys ≡ Some w → joined_to op x (fold_by op (xs ++ ys)) ≡ op (joined_to op x (fold_by op xs)) w
  joined_to-append x w [] ys e = ap (joined_to op x) e
  joined_to-append x w (y ∷ xs) ys e = ap (op x) (joined_to-append y w xs ys e) ∙ sym (assoc x (joined_to op y (fold_by op xs)) w)

  -- two bags in one
  pub fold_by-append : (v w : A) (xs ys : List A) → fold_by op xs ≡ Some v → fold_by op ys ≡ Some w → fold_by op (xs ++ ys) ≡ Some (op v w)
  fold_by-append v w [] ys e f = cc
  fold_by-append v w (x ∷ xs) ys e f =
      let h : joined_to op x (fold_by op xs) ≡ v = cc in
      ap Some (joined_to-append x w xs ys f ∙ ap (λ u. op u w) h)

  module _ (comm : (x y : A) → op x y ≡ op y x) where
    swap_both : (x y : A) (r : Option A) → op x (joined_to op y r) ≡ op y (joined_to op x r)
    swap_both x y None = comm x y
    swap_both x y (Some z) = sym (assoc x y z) ∙ ap (λ u. op u z) (comm x y) ∙ assoc y x z

    -- the first changes places with another
    exchange : (x d : A) (xs : List A) (j : ℕ) → j < length xs → fold_by op (get_or xs j d ∷ set xs j x) ≡ fold_by op (x ∷ xs)
    exchange x d [] j h = absurd (omega (arith, h))
    exchange x d (y ∷ ys) zero h = ap Some (swap_both y x (fold_by op ys))
    exchange x d (y ∷ ys) (suc j) h =
        let at = get_or ys j d in
        let rest = set ys j x in
        let e : fold_by op (at ∷ rest) ≡ fold_by op (x ∷ ys) = exchange x d ys j (omega (arith, h)) in
        let f : joined_to op at (fold_by op rest) ≡ joined_to op x (fold_by op ys) = cc in
        ap Some (swap_both at y (fold_by op rest) ∙ ap (op y) f ∙ swap_both y x (fold_by op ys))

    -- two change places
    swapped : (d : A) (xs : List A) (i j : ℕ) → i < length xs → j < length xs → fold_by op (set (set xs i (get_or xs j d)) j (get_or xs i d)) ≡ fold_by op xs
    swapped d [] i j p q = absurd (omega (arith, p))
    swapped d (x ∷ xs) zero zero p q = refl
    swapped d (x ∷ xs) zero (suc j) p q = exchange x d xs j (omega (arith, q))
    swapped d (x ∷ xs) (suc i) zero p q = exchange x d xs i (omega (arith, p))
    swapped d (x ∷ xs) (suc i) (suc j) p q = ap (λ r. Some (joined_to op x r)) (swapped d xs i j (omega (arith, p)) (omega (arith, q)))

    -- a bag in another order
    pub fold_by-permuted : (xs ys : List A) → IsPermutation xs ys → fold_by op ys ≡ fold_by op xs
    fold_by-permuted xs ys = IsPermutation-keeps xs (λ l. fold_by op l ≡ fold_by op xs) refl (λ l i j p q h.
        let d : A = first_of_list l (omega (arith, p)) in
        ap (fold_by op) (sym (swap_is l i j d p q)) ∙ swapped d l i j p q ∙ h) ys
