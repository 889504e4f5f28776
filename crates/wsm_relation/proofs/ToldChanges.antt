-- What changed is told row by row: the counts of bags, and how many rows have a number.
use Rattle.std.proofs.Common.{◌≡◌, ℕ, zero, suc, ◌+◌, ◌-◌, ◌≤◌, Bool, true, false, cond, List, [], ◌∷◌, ◌++◌, length, refl, sym, ap, ◌∙◌, inl, inr, arith}
use Rattle.std.specs.Prelude.{ℤ, pos, negsuc, ◌+ℤ◌, ◌-ℤ◌, ◌≤ℤ◌}
use Rattle.std.specs.Ordering.{is_gt, is_eq, int_eq}
use Rattle.std.proofs.lemmas.Bool.{cases_Bool}
use Rattle.std.proofs.lemmas.Int.{ints}
use Rattle.wsm_record.specs.declared.cell.Cell.{Cell}
use Rattle.wsm_semantics.specs.Relation.{row_cmp, without_one, sorted_rows, difference}
use Rattle.wsm_semantics.specs.RowCounts.{IsInOrder, count_of}
use Rattle.wsm_semantics.proofs.RowOrder.{untied}
use Rattle.wsm_semantics.proofs.RowBags.{once, count-append, count-sorted_rows, count-difference, sorted_rows-in_order, one_list}
use Rattle.wsm_relation.specs.Delta.{IsDelta, IsChange, number_of, shifted, gained, lost, gains, losses, undone}
use Rattle.wsm_semantics.proofs.RowsBound.{length-sorted_rows}
use Rattle.wsm_relation.proofs.Numbers.{Entry, number-shifted}
use Rattle.wsm_relation.proofs.Copies.{count-gains, count-losses, length-copies, gains-difference, losses-difference}

-- ---- counts

pub count-within : (q : List Cell) (rows : List (List Cell)) → count_of q rows ≤ length rows
count-within q [] = omega arith
count-within q (x ∷ xs) = elim (is_eq (row_cmp q x)) as (λ b. cond b 1 0 + count_of q xs ≤ suc (length xs)) [
  | true ↦ omega (arith, count-within q xs)
  | false ↦ omega (arith, count-within q xs)
]

length-without : (r : List Cell) (rows : List (List Cell)) → length (without_one r rows) ≤ length rows
length-without r [] = omega arith
length-without r (x ∷ xs) = elim (is_eq (row_cmp r x)) as (λ b. length (cond b xs (x ∷ without_one r xs)) ≤ suc (length xs)) [
  | true ↦ omega arith
  | false ↦ omega (arith, length-without r xs)
]

pub length-difference : (rows others : List (List Cell)) → length (difference rows others) ≤ length rows
length-difference rows [] = omega arith
length-difference rows (x ∷ xs) = omega (arith, length-difference (without_one x rows) xs, length-without x rows)

-- ---- how many rows have a number

some_copies : (z : ℤ) → int_eq z (pos 0) ≡ false → 1 ≤ gained z + lost z
some_copies (pos zero) h = absurd (cc)
some_copies (pos (suc n)) h = omega arith
some_copies (negsuc n) h = omega arith

length-parts : (es : List Entry) → IsDelta es → length es ≤ length (gains es) + length (losses es)
length-parts [] delta = omega arith
length-parts (e ∷ es) delta =
    omega (arith, length-parts es delta.2, some_copies e.1 delta.1, length-copies (gained e.1) e.0 (gains es), length-copies (lost e.1) e.0 (losses es))

module _ (before now : List (List Cell)) (es : List Entry) (delta : IsDelta es) (change : IsChange before now es) where
  -- no more than the rows before and now
  pub few_numbers : length es ≤ length before + length now
  few_numbers =
      let gained_few : length (gains es) ≤ length now = omega (arith, ap length (same_gains), length-difference (sorted_rows now) before, length-sorted_rows now) in
      let lost_few : length (losses es) ≤ length before = omega (arith, ap length (same_losses), length-difference (sorted_rows before) now, length-sorted_rows before) in
      omega (arith, length-parts es delta, gained_few, lost_few)
    where
      same_gains : gains es ≡ difference (sorted_rows now) before
      same_gains = gains-difference before (sorted_rows now) es delta (λ q. change q ∙ ap (λ n. pos n -ℤ pos (count_of q before)) (sym (count-sorted_rows q now))) (sorted_rows-in_order now)

      same_losses : losses es ≡ difference (sorted_rows before) now
      same_losses = losses-difference (sorted_rows before) now es delta (λ q. change q ∙ ap (λ n. pos (count_of q now) -ℤ pos n) (sym (count-sorted_rows q before))) (sorted_rows-in_order before)

  -- the bag before, of which there is one
  pub undone_is : IsInOrder before → undone es now ≡ before
  undone_is sorted = one_list (undone es now) before (sorted_rows-in_order (losses es ++ difference now (gains es))) sorted (λ q.
      let all : count_of q (undone es now) ≡ count_of q (losses es) + count_of q (difference now (gains es)) = count-sorted_rows q (losses es ++ difference now (gains es)) ∙ count-append q (losses es) (difference now (gains es)) in
      let rest : count_of q (difference now (gains es)) ≡ count_of q now - count_of q (gains es) = count-difference q now (gains es) in
      back (number_of q es) (count_of q now) (count_of q before) _ _ _ _ (change q) (count-gains q es delta) (count-losses q es delta) rest all)
    where
      back : (z : ℤ) (n b g l r u : ℕ) → z ≡ pos n -ℤ pos b → g ≡ gained z → l ≡ lost z → r ≡ n - g → u ≡ l + r → u ≡ b
      back (pos k) n b g l r u h i j m e = omega (arith, ints)
      back (negsuc k) n b g l r u h i j m e = omega (arith, ints)

  -- a number is no more than the rows
  pub number_high : (q : List Cell) (most : ℕ) → length now ≤ most → number_of q es ≤ℤ pos most
  number_high q most few = let c = count-within q now in let h = change q in omega (arith, ints)

  pub number_low : (q : List Cell) (most : ℕ) → length before ≤ most → (pos 0 -ℤ pos most) ≤ℤ number_of q es
  number_low q most few = let c = count-within q before in let h = change q in omega (arith, ints)

-- a row that had no number has one
pub one_number_more : (r : List Cell) (d : ℤ) (es : List Entry) → IsDelta es → number_of r es ≡ pos 0 → length (shifted r d es) ≡ suc (length es)
one_number_more r d [] delta none = refl
one_number_more r d (e ∷ es) delta none = elim (cases_Bool (is_gt (row_cmp r e.0))) [
  | inl gt ↦
      let apart : is_eq (row_cmp r e.0) ≡ false = untied (row_cmp r e.0) gt in
      let rest : number_of r es ≡ pos 0 = rw apart at none in
      rw gt (ap suc (one_number_more r d es delta.2 rest))
  | inr le ↦ rw le (elim (cases_Bool (is_eq (row_cmp r e.0))) [
    | inl tie ↦
        let zero : e.1 ≡ pos 0 = rw tie at none in
        absurd (let k : true ≡ false = sym (ap (λ z. int_eq z (pos 0)) zero) ∙ delta.1 in cc)
    | inr apart ↦ rw apart refl
  ])
]

-- a row is lost
pub change_less : (r : List Cell) (before rest : List (List Cell)) (es : List Entry) → IsDelta es → IsChange before (r ∷ rest) es → IsChange before rest (shifted r (negsuc 0) es)
change_less r before rest es delta change q =
    let was : number_of q es ≡ pos (once q r + count_of q rest) -ℤ pos (count_of q before) = change q in
    number-shifted q r (negsuc 0) es delta ∙ by (is_eq (row_cmp q r)) (number_of q es) was
  where
    by : (b : Bool) (z : ℤ) → z ≡ pos (cond b 1 0 + count_of q rest) -ℤ pos (count_of q before) → z +ℤ cond b (negsuc 0) (pos 0) ≡ pos (count_of q rest) -ℤ pos (count_of q before)
    by true z h = omega (arith, ints)
    by false z h = omega (arith, ints)

-- a row is gained
pub change_more : (r : List Cell) (before rest : List (List Cell)) (es : List Entry) → IsDelta es → IsChange before rest es → IsChange before (r ∷ rest) (shifted r (pos 1) es)
change_more r before rest es delta change q =
    number-shifted q r (pos 1) es delta ∙ by (is_eq (row_cmp q r)) (number_of q es) (change q)
  where
    by : (b : Bool) (z : ℤ) → z ≡ pos (count_of q rest) -ℤ pos (count_of q before) → z +ℤ cond b (pos 1) (pos 0) ≡ pos (cond b 1 0 + count_of q rest) -ℤ pos (count_of q before)
    by true z h = omega (arith, ints)
    by false z h = omega (arith, ints)
