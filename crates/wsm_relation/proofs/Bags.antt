-- The difference of bags in row order: what is in excess, and by a walk along both.
use Rattle.std.proofs.Common.{◌≡◌, ℕ, zero, suc, true, false, cond, List, [], ◌∷◌, drop, refl, sym, ap, ◌∙◌, inl, inr}
use Rattle.std.specs.List.{AllByRecursion}
use Rattle.std.specs.declared.cmp.Ordering.TheVariants.{Less, Equal, Greater}
use Rattle.std.specs.Ordering.{is_eq}
use Rattle.std.specs.Cmp.{tied_itself, tied_back}
use Rattle.std.proofs.lemmas.Bool.{cases_Bool}
use Rattle.wsm_record.specs.declared.cell.Cell.{Cell}
use Rattle.wsm_semantics.specs.Relation.{row_cmp, without_one, difference}
use Rattle.wsm_semantics.specs.RowCounts.{IsInOrder}
use Rattle.wsm_semantics.proofs.Lists.{all-each}
use Rattle.wsm_semantics.proofs.RowOrder.{rows_total, same_rows}
use Rattle.wsm_semantics.proofs.RowBags.{count-difference, difference-in_order, none_before}
use Rattle.wsm_relation.specs.Rows.{IsExcess}

pub excess : (rows others : List (List Cell)) → IsInOrder rows → IsExcess rows others (difference rows others)
excess rows others sorted = record { counts = λ q. count-difference q rows others; in_order = difference-in_order rows others sorted }

-- ---- a walk

pub difference-nil : (others : List (List Cell)) → difference [] others ≡ []
difference-nil [] = refl
difference-nil (x ∷ xs) = difference-nil xs

difference-apart : (x : List Cell) (xs ys : List (List Cell)) → AllByRecursion (λ y. is_eq (row_cmp y x) ≡ false) ys → difference (x ∷ xs) ys ≡ x ∷ difference xs ys
difference-apart x xs [] apart = refl
difference-apart x xs (y ∷ ys) apart = ap (λ b. difference (cond b xs (x ∷ without_one y xs)) ys) apart.0 ∙ difference-apart x (without_one y xs) ys apart.1

without-absent : (r : List Cell) (rows : List (List Cell)) → AllByRecursion (λ y. is_eq (row_cmp r y) ≡ false) rows → without_one r rows ≡ rows
without-absent r [] absent = refl
without-absent r (x ∷ xs) absent = ap (λ b. cond b xs (x ∷ without_one r xs)) absent.0 ∙ ap (λ l. x ∷ l) (without-absent r xs absent.1)

turned_back : (x y : List Cell) → is_eq (row_cmp x y) ≡ false → is_eq (row_cmp y x) ≡ false
turned_back x y h = elim (cases_Bool (is_eq (row_cmp y x))) [
  | inl tie ↦
      let same : y ≡ x = same_rows y x tie in
      let bad : is_eq (row_cmp x x) ≡ false = ap (λ (z : List Cell). is_eq (row_cmp x z)) (sym same) ∙ h in
      absurd (let k : true ≡ false = sym (ap is_eq (tied_itself rows_total x)) ∙ bad in cc)
  | inr stays ↦ stays
]

-- a row before all the others stays
pub difference-before : (x y : List Cell) (xs ys : List (List Cell)) → IsInOrder (y ∷ ys) → row_cmp x y ≡ Less → difference (x ∷ xs) (y ∷ ys) ≡ x ∷ difference xs (y ∷ ys)
difference-before x y xs ys sorted less =
    difference-apart x xs (y ∷ ys) (all-each (λ z. is_eq (row_cmp x z) ≡ false) (λ z. is_eq (row_cmp z x) ≡ false) (y ∷ ys) (λ z h. turned_back x z h) (none_before x y ys sorted less))

-- one that is among them goes, with that one
pub difference-tied : (x y : List Cell) (xs ys : List (List Cell)) → row_cmp x y ≡ Equal → difference (x ∷ xs) (y ∷ ys) ≡ difference xs ys
difference-tied x y xs ys tie = ap (λ r. difference (cond (is_eq r) xs (x ∷ without_one y xs)) ys) (tied_back rows_total x y tie)

-- one of the others before all the rows takes none away
pub difference-behind : (x y : List Cell) (xs ys : List (List Cell)) → IsInOrder (x ∷ xs) → row_cmp x y ≡ Greater → difference (x ∷ xs) (y ∷ ys) ≡ difference (x ∷ xs) ys
difference-behind x y xs ys sorted more =
    let less : row_cmp y x ≡ Less = rw (rows_total.antisymm y x, more) refl in
    ap (λ l. difference l ys) (without-absent y (x ∷ xs) (none_before y x xs sorted less))

pub drop-in_order : (rows : List (List Cell)) (i : ℕ) → IsInOrder rows → IsInOrder (drop i rows)
drop-in_order rows zero sorted = sorted
drop-in_order [] (suc i) sorted = tt
drop-in_order (x ∷ xs) (suc i) sorted = drop-in_order xs i sorted.1
