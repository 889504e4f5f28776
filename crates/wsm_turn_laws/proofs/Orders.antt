-- The same in another order.
use Rattle.std.proofs.Common.{◌≡◌, ℕ, List, ◌∷◌, ◌++◌, take, drop, sym, ap, subst, ◌∙◌}
use Rattle.std.proofs.lemmas.List.{append_assoc, take-append-drop}
use Rattle.std.proofs.lemmas.List.Sorted.{IsPermutation-refl, IsPermutation-sym, IsPermutation-trans, IsPermutation-cons, IsPermutation-append_comm, IsPermutation-append_left, IsPermutation-append_right, IsPermutation-middle}
use Rattle.std.specs.Prelude.{IsPermutation}

module _ {X : Type 0} where
  pub same_order : (xs ys : List X) → xs ≡ ys → IsPermutation xs ys
  same_order xs ys same = subst (λ (zs : List X). IsPermutation xs zs) same (IsPermutation-refl xs)

  -- one that stands behind others is put in front
  pub to_front : (xs ys zs : List X) (x : X) → IsPermutation (xs ++ (ys ++ x ∷ zs)) (x ∷ (xs ++ (ys ++ zs)))
  to_front xs ys zs x =
      IsPermutation-trans (xs ++ (ys ++ x ∷ zs)) ((xs ++ ys) ++ x ∷ zs) (x ∷ (xs ++ (ys ++ zs)))
      (same_order (xs ++ (ys ++ x ∷ zs)) ((xs ++ ys) ++ x ∷ zs) (sym (append_assoc xs ys (x ∷ zs))))
      (subst (λ (us : List X). IsPermutation ((xs ++ ys) ++ x ∷ zs) (x ∷ us)) (append_assoc xs ys zs) (IsPermutation-middle (xs ++ ys) x zs))

  -- the end is put in front
  pub end_first : (n : ℕ) (xs : List X) → IsPermutation xs (drop n xs ++ take n xs)
  end_first n xs = subst (λ (zs : List X). IsPermutation zs (drop n xs ++ take n xs)) (take-append-drop n xs) (IsPermutation-append_comm (take n xs) (drop n xs))

  -- parts change places
  pub part_first : (xs some others zs : List X) → IsPermutation (xs ++ ((some ++ others) ++ zs)) ((some ++ xs) ++ (others ++ zs))
  part_first xs some others zs =
      let regrouped : xs ++ ((some ++ others) ++ zs) ≡ (xs ++ some) ++ (others ++ zs) =
      ap (λ (us : List X). xs ++ us) (append_assoc some others zs) ∙ sym (append_assoc xs some (others ++ zs)) in
      IsPermutation-trans (xs ++ ((some ++ others) ++ zs)) ((xs ++ some) ++ (others ++ zs)) ((some ++ xs) ++ (others ++ zs))
      (same_order (xs ++ ((some ++ others) ++ zs)) ((xs ++ some) ++ (others ++ zs)) regrouped)
      (IsPermutation-append_left (others ++ zs) (xs ++ some) (some ++ xs) (IsPermutation-append_comm xs some))

  -- one comes first, and then those of its kind
  pub one_and_its_kind : (xs kind some others zs : List X) (x : X) → IsPermutation kind (some ++ others) → IsPermutation (xs ++ (kind ++ x ∷ zs)) ((some ++ x ∷ xs) ++ (others ++ zs))
  one_and_its_kind xs kind some others zs x parted =
      let all : List X = xs ++ ((some ++ others) ++ zs) in
      let last : List X = (some ++ x ∷ xs) ++ (others ++ zs) in
      let split : IsPermutation (x ∷ (xs ++ (kind ++ zs))) (x ∷ all) =
      IsPermutation-cons x (xs ++ (kind ++ zs)) all (IsPermutation-append_right xs (kind ++ zs) ((some ++ others) ++ zs) (IsPermutation-append_left zs kind (some ++ others) parted)) in
      let swapped : IsPermutation (x ∷ all) (x ∷ ((some ++ xs) ++ (others ++ zs))) = IsPermutation-cons x all ((some ++ xs) ++ (others ++ zs)) (part_first xs some others zs) in
      let in_place : IsPermutation (x ∷ ((some ++ xs) ++ (others ++ zs))) last =
      IsPermutation-append_left (others ++ zs) (x ∷ (some ++ xs)) (some ++ x ∷ xs) (IsPermutation-sym (some ++ x ∷ xs) (x ∷ (some ++ xs)) (IsPermutation-middle some x xs)) in
      IsPermutation-trans (xs ++ (kind ++ x ∷ zs)) (x ∷ (xs ++ (kind ++ zs))) last (to_front xs kind zs x)
      (IsPermutation-trans (x ∷ (xs ++ (kind ++ zs))) (x ∷ all) last split
      (IsPermutation-trans (x ∷ all) (x ∷ ((some ++ xs) ++ (others ++ zs))) last swapped in_place))
