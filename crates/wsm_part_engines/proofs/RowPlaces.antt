-- The order of places of rows: it is total, equal places alone tie, and so a list of them has one order.
use Rattle.std.proofs.Common.{◌≡◌, ℕ, suc, ◌+◌, ◌<◌, Bool, true, false, cond, List, [], ◌∷◌, length, get_or, refl, sym, ap, subst, ◌∙◌, arith}
use Rattle.std.proofs.lemmas.Cmp.{upto, on_total, then_total, nat_cmp_total, int_cmp_total}
use Rattle.std.proofs.lemmas.List.Sorted.{sum_by-IsPermutation}
use Rattle.std.proofs.lemmas.List.Sums.{sum_by-cons}
use Rattle.std.proofs.lemmas.Map.Lookups.{exact_pairs, exact_signed, exact_unsigned}
use Rattle.std.specs.Cmp.{IsTotalOrder}
use Rattle.std.specs.List.{AllByRecursion, sum_by}
use Rattle.std.specs.List.Sorted.{IsPermutation, IsSorted}
use Rattle.std.specs.Ordering.{nat_cmp, int_cmp, is_gt, is_lt, ordering_reverse}
use Rattle.std.specs.declared.cmp.Ordering.{Ordering}
use Rattle.std.specs.declared.cmp.Ordering.TheVariants.{Less, Equal, Greater}
use Rattle.std.specs.FinMap.{IsAntisymmetric}
use Rattle.wsm_semantics.proofs.Lists.{all-each}
use Rattle.wsm_semantics.proofs.RowOrder.{not_behind}
use Rattle.wsm_part_engines.specs.declared.row_place.RowPlace.{RowPlace}
use Rattle.wsm_part_engines.specs.Ordered.{row_cmp, with_place, in_row_order}

pub rows_total : IsTotalOrder row_cmp
rows_total =
    then_total (on_total (λ (p : RowPlace). p.rank) nat_cmp_total)
    (then_total (on_total (λ (p : RowPlace). p.end) int_cmp_total)
    (then_total (on_total (λ (p : RowPlace). p.start) int_cmp_total)
    (then_total (on_total (λ (p : RowPlace). p.part) nat_cmp_total)
    (then_total (on_total (λ (p : RowPlace). p.key) nat_cmp_total)
    (on_total (λ (p : RowPlace). p.row) nat_cmp_total)))))

-- only equal places tie
pub rows_exact : IsAntisymmetric row_cmp
rows_exact a b h =
    ap (λ (p : _). let q : RowPlace = record { rank = p.0; end = p.1.0; start = p.1.1.0; part = p.1.1.1.0; key = p.1.1.1.1.0; row = p.1.1.1.1.1 } in q)
    (exact_pairs nat_cmp _ exact_unsigned (exact_pairs int_cmp _ exact_signed (exact_pairs int_cmp _ exact_signed (exact_pairs nat_cmp _ exact_unsigned (exact_pairs nat_cmp nat_cmp exact_unsigned exact_unsigned))))
    (a.rank, (a.end, (a.start, (a.part, (a.key, a.row))))) (b.rank, (b.end, (b.start, (b.part, (b.key, b.row))))) h)

-- ---- places in order

abbrev pub IsFirst : RowPlace → List RowPlace → Type 0
IsFirst p ps = AllByRecursion (λ x. is_gt (row_cmp p x) ≡ false) ps

abbrev pub AreOrdered : List RowPlace → Type 0
AreOrdered [] = Unit {0}
AreOrdered (p ∷ ps) = IsFirst p ps × AreOrdered ps

pub all_with : (P : RowPlace → Type 0) (p : RowPlace) (ps : List RowPlace) → P p → AllByRecursion P ps → AllByRecursion P (with_place p ps)
all_with P p [] here all = (here, tt)
all_with P p (x ∷ xs) here all =
    elim (is_gt (row_cmp p x)) as (λ b. AllByRecursion P (cond b (x ∷ with_place p xs) (p ∷ x ∷ xs))) [
      | true ↦ (all.0, all_with P p xs here all.1)
      | false ↦ (here, all)
    ]

pub all_ordered : (P : RowPlace → Type 0) (ps : List RowPlace) → AllByRecursion P ps → AllByRecursion P (in_row_order ps)
all_ordered P [] all = tt
all_ordered P (p ∷ ps) all = all_with P p (in_row_order ps) all.0 (all_ordered P ps all.1)

goes_first : (p r : RowPlace) (ps : List RowPlace) → is_gt (row_cmp p r) ≡ false → IsFirst r ps → IsFirst p ps
goes_first p r ps h first = all-each (λ x. is_gt (row_cmp r x) ≡ false) (λ x. is_gt (row_cmp p x) ≡ false) ps (λ x k. upto rows_total p r x h k) first

ordered_with : (p : RowPlace) (ps : List RowPlace) → AreOrdered ps → AreOrdered (with_place p ps)
ordered_with p [] order = (tt, tt)
ordered_with p (x ∷ xs) order =
    elim (is_gt (row_cmp p x)) as (λ b. is_gt (row_cmp p x) ≡ b → AreOrdered (cond b (x ∷ with_place p xs) (p ∷ x ∷ xs))) [
      | true ↦ λ h. (all_with (λ y. is_gt (row_cmp x y) ≡ false) p xs (not_behind rows_total p x h) order.0, ordered_with p xs order.1)
      | false ↦ λ h. ((h, goes_first p x xs h order.0), order)
    ] refl

ordered : (ps : List RowPlace) → AreOrdered (in_row_order ps)
ordered [] = tt
ordered (p ∷ ps) = ordered_with p (in_row_order ps) (ordered ps)

-- ---- what is sorted

not_less : (o r : Ordering) → o ≡ ordering_reverse r → is_lt r ≡ false → is_gt o ≡ false
not_less o Less is h = absurd (cc)
not_less o Equal is h = ap is_gt is
not_less o Greater is h = ap is_gt is

pub from_sort : (ps : List RowPlace) → IsSorted row_cmp ps → AreOrdered ps
from_sort [] sorted = tt
from_sort (p ∷ []) sorted = (tt, tt)
from_sort (p ∷ x ∷ xs) sorted =
    let next : (k : ℕ) (d : RowPlace) → k + 1 < length (x ∷ xs) → is_lt (row_cmp (get_or (x ∷ xs) (k + 1) d) (get_or (x ∷ xs) k d)) ≡ false =
    (λ k d h. let e : suc k + 1 ≡ suc (k + 1) = omega arith in subst (λ (n : ℕ). is_lt (row_cmp (get_or (p ∷ x ∷ xs) n d) (get_or (x ∷ xs) k d)) ≡ false) e (sorted (suc k) d (omega arith) (omega (arith, h)))) in
    let rest : AreOrdered (x ∷ xs) = from_sort (x ∷ xs) (λ k d from until. next k d until) in
    let here : is_gt (row_cmp p x) ≡ false = not_less (row_cmp p x) (row_cmp x p) (rows_total.antisymm p x) (sorted 0 p (omega arith) (omega arith)) in
    ((here, goes_first p x xs here rest.0), rest)

-- ---- one order

-- as many of each kind
abbrev SameBag : List RowPlace → List RowPlace → Type 0
SameBag ps qs = (f : RowPlace → ℕ) → sum_by f ps ≡ sum_by f qs

sum_none : (f : RowPlace → ℕ) (ps : List RowPlace) → AllByRecursion (λ p. f p ≡ 0) ps → sum_by f ps ≡ 0
sum_none f [] none = refl
sum_none f (p ∷ ps) none = let a = sum_by-cons f p ps in let b = none.0 in let c = sum_none f ps none.1 in omega (arith, a, b, c)

abbrev one_if : Bool → ℕ
one_if true = 1
one_if false = 0

none_if : (b : Bool) → b ≡ false → one_if b ≡ 0
none_if b h = ap one_if h

if_none : (b : Bool) → one_if b ≡ 0 → b ≡ false
if_none true h = absurd (omega (arith, h))
if_none false h = refl

-- the first of places in order is behind none of the others that are the same
first_there : (p q : RowPlace) (ps qs : List RowPlace) → AreOrdered (p ∷ ps) → SameBag (p ∷ ps) (q ∷ qs) → is_gt (row_cmp p q) ≡ false
first_there p q ps qs order same =
    let f : RowPlace → ℕ = λ x. one_if (is_gt (row_cmp p x)) in
    let none : sum_by f (p ∷ ps) ≡ 0 =
    sum_none f (p ∷ ps) (ap one_if (itself p), all-each (λ x. is_gt (row_cmp p x) ≡ false) (λ x. f x ≡ 0) ps (λ x h. none_if (is_gt (row_cmp p x)) h) order.0) in
    let there = sum_by-cons f q qs in
    let is = same f in
    if_none (is_gt (row_cmp p q)) (omega (arith, none, there, is))
  where
    itself : (x : RowPlace) → is_gt (row_cmp x x) ≡ false
    itself x = not_itself (row_cmp x x) (rows_total.antisymm x x) where
      not_itself : (o : Ordering) → o ≡ ordering_reverse o → is_gt o ≡ false
      not_itself Less h = absurd (cc)
      not_itself Equal h = refl
      not_itself Greater h = absurd (cc)

tie : (o r : Ordering) → o ≡ ordering_reverse r → is_gt o ≡ false → is_gt r ≡ false → o ≡ Equal
tie Less Less is h k = absurd (cc)
tie Less Equal is h k = absurd (cc)
tie Less Greater is h k = absurd (cc)
tie Equal r is h k = refl
tie Greater r is h k = absurd (cc)

same_order : (ps qs : List RowPlace) → AreOrdered ps → AreOrdered qs → SameBag ps qs → ps ≡ qs
same_order [] [] a b same = refl
same_order [] (q ∷ qs) a b same = let f : RowPlace → ℕ = λ _. 1 in let e = same f in let k = sum_by-cons f q qs in absurd (omega (arith, e, k))
same_order (p ∷ ps) [] a b same = let f : RowPlace → ℕ = λ _. 1 in let e = same f in let k = sum_by-cons f p ps in absurd (omega (arith, e, k))
same_order (p ∷ ps) (q ∷ qs) a b same =
    let first : p ≡ q = rows_exact p q (tie (row_cmp p q) (row_cmp q p) (rows_total.antisymm p q) (first_there p q ps qs a same) (first_there q p qs ps b (λ f. sym (same f)))) in
    let others : SameBag ps qs = (λ f. let e = same f in let j = sum_by-cons f p ps in let k = sum_by-cons f q qs in let h = ap f first in omega (arith, e, j, k, h)) in
    λ i. first i ∷ same_order ps qs a.1 b.1 others i

sum_with : (f : RowPlace → ℕ) (p : RowPlace) (ps : List RowPlace) → sum_by f (with_place p ps) ≡ sum_by f (p ∷ ps)
sum_with f p [] = refl
sum_with f p (x ∷ xs) =
    elim (is_gt (row_cmp p x)) as (λ b. sum_by f (cond b (x ∷ with_place p xs) (p ∷ x ∷ xs)) ≡ sum_by f (p ∷ x ∷ xs)) [
      | true ↦
          let a = sum_by-cons f x (with_place p xs) in
          let b = sum_with f p xs in
          let c = sum_by-cons f p xs in
          let d = sum_by-cons f p (x ∷ xs) in
          let e = sum_by-cons f x xs in
          omega (arith, a, b, c, d, e)
      | false ↦ refl
    ]

sum_ordered : (f : RowPlace → ℕ) (ps : List RowPlace) → sum_by f (in_row_order ps) ≡ sum_by f ps
sum_ordered f [] = refl
sum_ordered f (p ∷ ps) =
    let a = sum_with f p (in_row_order ps) in
    let b = sum_by-cons f p (in_row_order ps) in
    let c = sum_by-cons f p ps in
    let d = sum_ordered f ps in
    omega (arith, a, b, c, d)

-- what a sort comes to
pub sorted_is : (ps qs : List RowPlace) → IsPermutation ps qs → IsSorted row_cmp qs → qs ≡ in_row_order ps
sorted_is ps qs moved sorted =
    same_order qs (in_row_order ps) (from_sort qs sorted) (ordered ps) (λ f. sum_by-IsPermutation f ps qs moved ∙ sym (sum_ordered f ps))
