-- What each accumulator holds of a bag of rows, and within which bounds.
use Rattle.std.proofs.Common.{◌≡◌, ℕ, zero, suc, List, [], ◌∷◌, length, Option, Some, None, IsTrue, refl, sym, ap, ◌∙◌, arith}
use Rattle.std.specs.Prelude.{ℤ, pos, ◌+ℤ◌, ◌≤ℤ◌, All, map, slice_get, option_map, IfSome}
use Rattle.std.specs.Int.{int_min, int_max}
use Rattle.std.specs.List.{slice_index_or}
use Rattle.std.proofs.lemmas.Bool.{true≢false}
use Rattle.wsm_record.specs.declared.event.Value.{Value}
use Rattle.wsm_record.specs.declared.event.Value.TheVariants.{Int}
use Rattle.wsm_record.specs.declared.words.Kind.{Kind}
use Rattle.wsm_record.specs.declared.words.Kind.TheVariants as kinds
use Rattle.wsm_fold.specs.Laws.{joined_to, fold_by, IsBetween}
use Rattle.wsm_fold.specs.Lawful.{sum_laws, min_laws, max_laws}
use Rattle.wsm_fold.specs.Fold.{are_of_kinds, join, joins, fold_of, folds_of, column, folds_numbers, times, IsNumberBetween}
use Rattle.wsm_fold.proofs.Rows.{length-are_of_kinds, are_of_kinds-joins}

-- ---- places

-- the value at a place
abbrev at : ℕ → List Value → Value
at a row = slice_index_or row a (Int (pos 0))

place_joined : (ks : List Kind) (xs ys : List Value) (a : ℕ) (k : Kind) → length xs ≡ length ks → length ys ≡ length ks → slice_get ks a ≡ Some k
    → slice_get (joins ks xs ys) a ≡ Some (join k (at a xs) (at a ys))
place_joined [] xs ys a k p q e = absurd cc
place_joined (l ∷ ks) [] ys a k p q e = absurd (omega (arith, p))
place_joined (l ∷ ks) (x ∷ xs) [] a k p q e = absurd (omega (arith, q))
place_joined (l ∷ ks) (x ∷ xs) (y ∷ ys) zero k p q e = let same : l ≡ k = cc in ap (λ m. Some (join m x y)) same
place_joined (l ∷ ks) (x ∷ xs) (y ∷ ys) (suc a) k p q e = place_joined ks xs ys a k (omega (arith, p)) (omega (arith, q)) e

place_first : (ks : List Kind) (row : List Value) (a : ℕ) (k : Kind) → length row ≡ length ks → slice_get ks a ≡ Some k → slice_get row a ≡ Some (at a row)
place_first [] row a k p e = absurd cc
place_first (l ∷ ks) [] a k p e = absurd (omega (arith, p))
place_first (l ∷ ks) (x ∷ row) zero k p e = refl
place_first (l ∷ ks) (x ∷ row) (suc a) k p e = place_first ks row a k (omega (arith, p)) e

-- rows that fit the kinds
abbrev AllFit : List Kind → List (List Value) → Type 0
AllFit ks rows = All (λ row. IsTrue (are_of_kinds ks row)) rows

rest_fits : (ks : List Kind) (row : List Value) (rows : List (List Value)) → AllFit ks (row ∷ rows) → AllFit ks rows
rest_fits ks row rows h k d lt = h (suc k) d (omega (arith, lt))

-- the folds of rows that fit have the kinds' types
folds_fit : (ks : List Kind) (row : List Value) (rows : List (List Value)) → AllFit ks (row ∷ rows) → length (joined_to (joins ks) row (folds_of ks rows)) ≡ length ks
folds_fit ks row [] h = length-are_of_kinds ks row (h 0 [] (omega arith))
folds_fit ks row (next ∷ rows) h =
    let rest = folds_fit ks next rows (rest_fits ks row (next ∷ rows) h) in
    let first = length-are_of_kinds ks row (h 0 [] (omega arith)) in
    length-are_of_kinds ks _ (are_of_kinds-joins ks row _ first rest)

place_folded : (ks : List Kind) (row : List Value) (rows : List (List Value)) (a : ℕ) (k : Kind) → AllFit ks (row ∷ rows) → slice_get ks a ≡ Some k
    → slice_get (joined_to (joins ks) row (folds_of ks rows)) a ≡ fold_of k (column a (row ∷ rows))
place_folded ks row [] a k h e = place_first ks row a k (length-are_of_kinds ks row (h 0 [] (omega arith))) e
place_folded ks row (next ∷ rows) a k h e =
    let held = joined_to (joins ks) next (folds_of ks rows) in
    let fits : AllFit ks (next ∷ rows) = rest_fits ks row (next ∷ rows) h in
    let there : slice_get held a ≡ fold_of k (column a (next ∷ rows)) = place_folded ks next rows a k fits e in
    let read : slice_get held a ≡ Some (at a held) = place_first ks held a k (folds_fit ks next rows fits) e in
    let first = length-are_of_kinds ks row (h 0 [] (omega arith)) in
    place_joined ks row held a k first (folds_fit ks next rows fits) e ∙ ap (λ o. Some (joined_to (join k) (at a row) o)) (sym read ∙ there)

pub place_by_place : (ks : List Kind) (rows : List (List Value)) (held : List Value) → AllFit ks rows → folds_of ks rows ≡ Some held
    → (a : ℕ) (k : Kind) → slice_get ks a ≡ Some k → slice_get held a ≡ fold_of k (column a rows)
place_by_place ks [] held h e a k is = absurd cc
place_by_place ks (row ∷ rows) held h e a k is =
    let same : joined_to (joins ks) row (folds_of ks rows) ≡ held = cc in
    ap (λ vs. slice_get vs a) (sym same) ∙ place_folded ks row rows a k h is

-- ---- bounds

-- numbers are folded as numbers
module _ (k : Kind) (op : ℤ → ℤ → ℤ) (same : (m n : ℤ) → join k (Int m) (Int n) ≡ Int (op m n)) where
  joined_numbers : (n : ℤ) (o : Option ℤ) → joined_to (join k) (Int n) (option_map Int o) ≡ Int (joined_to op n o)
  joined_numbers n None = refl
  joined_numbers n (Some m) = same n m

  fold_numbers : (numbers : List ℤ) → fold_of k (map Int numbers) ≡ option_map Int (fold_by op numbers)
  fold_numbers [] = refl
  fold_numbers (n ∷ numbers) = ap (λ o. Some (joined_to (join k) (Int n) o)) (fold_numbers numbers) ∙ ap Some (joined_numbers n (fold_by op numbers))

  number_between : (lo hi : ℤ) (o : Option ℤ) → IfSome o (IsBetween ◌≤ℤ◌ lo hi) → IfSome (option_map Int o) (IsNumberBetween lo hi)
  number_between lo hi None h = tt
  number_between lo hi (Some n) h = h

  between : (lo hi : ℤ) (numbers : List ℤ) → IfSome (fold_by op numbers) (IsBetween ◌≤ℤ◌ lo hi) → IfSome (fold_of k (map Int numbers)) (IsNumberBetween lo hi)
  between lo hi numbers h = rw (fold_numbers numbers) (number_between lo hi (fold_by op numbers) h)

pub in_range : (k : Kind) (lo hi : ℤ) (numbers : List ℤ) → IsTrue (folds_numbers k) → All (IsBetween ◌≤ℤ◌ lo hi) numbers
    → IfSome (fold_of k (map Int numbers)) (IsNumberBetween (times k (length numbers) lo) (times k (length numbers) hi))
in_range kinds.Sum lo hi numbers t h = between kinds.Sum ◌+ℤ◌ (λ m n. refl) _ _ numbers (sum_laws.in_range lo hi numbers h)
in_range kinds.Min lo hi numbers t h = between kinds.Min int_min (λ m n. refl) _ _ numbers (min_laws.in_range lo hi numbers h)
in_range kinds.Max lo hi numbers t h = between kinds.Max int_max (λ m n. refl) _ _ numbers (max_laws.in_range lo hi numbers h)
in_range kinds.Any lo hi numbers t h = absurd (true≢false (sym t))
in_range kinds.All lo hi numbers t h = absurd (true≢false (sym t))
