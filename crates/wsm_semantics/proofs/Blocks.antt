-- Events between two rises of the watermark in any order: each permutation of them is a history in another
-- order, as neighbours that change places make each permutation.
use Rattle.std.proofs.Common.{◌≡◌, ℕ, zero, suc, ◌<◌, false, List, [], ◌∷◌, ◌++◌, length, get_or, set, subst, arith}
use Rattle.std.proofs.lemmas.List.Edits.{swap_is}
use Rattle.std.proofs.lemmas.List.Sorted.{IsPermutation-keeps}
use Rattle.std.specs.Prelude.{IsPermutation}
use Rattle.std.specs.List.{AllByRecursion}
use Rattle.wsm_semantics.specs.Order.{Judged, is_rise, Reordered, Next, Swap, Then}
use Rattle.wsm_semantics.proofs.ReorderedHistories.{reordered-itself}

-- none raises the watermark
abbrev pub NoneRises : List Judged → Type 0
NoneRises xs = AllByRecursion (λ x. is_rise x ≡ false) xs

-- the first of a list that has one
first_of : (xs : List Judged) → 0 < length xs → Judged
first_of [] h = absurd (omega (arith, h))
first_of (x ∷ xs) h = x

none_at : (d : Judged) (xs : List Judged) (i : ℕ) → i < length xs → NoneRises xs → is_rise (get_or xs i d) ≡ false
none_at d [] i l h = absurd (omega (arith, l))
none_at d (x ∷ xs) zero l h = h.0
none_at d (x ∷ xs) (suc i) l h = none_at d xs i (omega (arith, l)) h.1

none_set : (x : Judged) → is_rise x ≡ false → (xs : List Judged) (i : ℕ) → NoneRises xs → NoneRises (set xs i x)
none_set x k [] i h = h
none_set x k (y ∷ ys) zero h = (k, h.1)
none_set x k (y ∷ ys) (suc i) h = (h.0, none_set x k ys i h.1)

module _ (rest : List Judged) where
  -- the first changes places with another
  exchange : (x d : Judged) → is_rise x ≡ false → (xs : List Judged) (j : ℕ) → j < length xs → NoneRises xs → Reordered (x ∷ (xs ++ rest)) (get_or xs j d ∷ (set xs j x ++ rest))
  exchange x d k [] j l h = absurd (omega (arith, l))
  exchange x d k (y ∷ ys) zero l h = Swap x y (ys ++ rest) k h.0
  exchange x d k (y ∷ ys) (suc j) l h =
      let other : Judged = get_or ys j d in
      let later : List Judged = set ys j x ++ rest in
      Then (x ∷ y ∷ (ys ++ rest)) (y ∷ x ∷ (ys ++ rest)) (other ∷ y ∷ later) (Swap x y (ys ++ rest) k h.0)
      (Then (y ∷ x ∷ (ys ++ rest)) (y ∷ other ∷ later) (other ∷ y ∷ later)
      (Next y (x ∷ (ys ++ rest)) (other ∷ later) (exchange x d k ys j (omega (arith, l)) h.1))
      (Swap y other later h.0 (none_at d ys j (omega (arith, l)) h.1)))

  -- two change places
  swapped : (d : Judged) (xs : List Judged) (i j : ℕ) → i < length xs → j < length xs → NoneRises xs → Reordered (xs ++ rest) (set (set xs i (get_or xs j d)) j (get_or xs i d) ++ rest)
  swapped d [] i j p q h = absurd (omega (arith, p))
  swapped d (x ∷ xs) zero zero p q h = reordered-itself (x ∷ (xs ++ rest))
  swapped d (x ∷ xs) zero (suc j) p q h = exchange x d h.0 xs j (omega (arith, q)) h.1
  swapped d (x ∷ xs) (suc i) zero p q h = exchange x d h.0 xs i (omega (arith, p)) h.1
  swapped d (x ∷ xs) (suc i) (suc j) p q h = Next x (xs ++ rest) (set (set xs i (get_or xs j d)) j (get_or xs i d) ++ rest) (swapped d xs i j (omega (arith, p)) (omega (arith, q)) h.1)

  -- a block in another order
  pub reordered-block : (xs ys : List Judged) → NoneRises xs → IsPermutation xs ys → Reordered (xs ++ rest) (ys ++ rest)
  reordered-block xs ys none permuted =
      (IsPermutation-keeps xs (λ l. NoneRises l × Reordered (xs ++ rest) (l ++ rest)) (none, reordered-itself (xs ++ rest))
      (λ l i j p q h.
      let d : Judged = first_of l (omega (arith, p)) in
      let moved : List Judged = set (set l i (get_or l j d)) j (get_or l i d) in
      subst (λ m. NoneRises m × Reordered (xs ++ rest) (m ++ rest)) (swap_is l i j d p q) (
        none_set (get_or l i d) (none_at d l i p h.0) (set l i (get_or l j d)) j (none_set (get_or l j d) (none_at d l j q h.0) l i h.0),
        Then (xs ++ rest) (l ++ rest) (moved ++ rest) h.1 (swapped d l i j p q h.0),
      ))
      ys permuted).1

-- the same events before
pub reordered-before : (first xs ys : List Judged) → Reordered xs ys → Reordered (first ++ xs) (first ++ ys)
reordered-before [] xs ys r = r
reordered-before (x ∷ first) xs ys r = Next x (first ++ xs) (first ++ ys) (reordered-before first xs ys r)
