-- The positive and the negative part of rows with their numbers, and the difference of bags.
use Rattle.std.proofs.Common.{◌≡◌, ℕ, zero, suc, ◌+◌, ◌-◌, true, false, cond, List, [], ◌∷◌, ◌++◌, map, length, replicate, refl, sym, ap, ◌∙◌, inl, inr, arith}
use Rattle.std.specs.Prelude.{ℤ, pos, negsuc, ◌-ℤ◌}
use Rattle.std.specs.List.{AllByRecursion}
use Rattle.std.specs.declared.cmp.Ordering.TheVariants.{Less}
use Rattle.std.specs.Ordering.{is_gt, is_eq}
use Rattle.std.specs.Cmp.{tied_itself}
use Rattle.std.proofs.lemmas.Bool.{cases_Bool}
use Rattle.std.proofs.lemmas.Int.{ints}
use Rattle.wsm_record.specs.declared.cell.Cell.{Cell}
use Rattle.wsm_semantics.specs.Relation.{row_cmp, difference}
use Rattle.wsm_semantics.specs.RowCounts.{IsInOrder, count_of}
use Rattle.wsm_semantics.proofs.Lists.{all-each}
use Rattle.wsm_semantics.proofs.RowOrder.{rows_total, same_rows}
use Rattle.wsm_semantics.proofs.RowBags.{count-difference, difference-in_order, one_list}
use Rattle.wsm_semantics.specs.declared.out_row.OutRow.{OutRow}
use Rattle.wsm_relation.specs.declared.changes.Side.{Side}
use Rattle.wsm_relation.specs.declared.changes.Side.TheVariants.{Gained, Lost, Standing}
use Rattle.wsm_relation.specs.Delta.{IsDelta, IsChange, number_of, copies, gained, lost, gains, losses, times_of, changed_rows}
use Rattle.wsm_relation.proofs.Numbers.{Entry, number-before}

pub copies-append : (n : ℕ) (r : List Cell) (rows : List (List Cell)) → copies n r rows ≡ copies n r [] ++ rows
copies-append zero r rows = refl
copies-append (suc n) r rows = ap (λ l. r ∷ l) (copies-append n r rows)

pub copies-next : (n : ℕ) (r : List Cell) → copies (suc n) r [] ≡ copies n r [] ++ r ∷ []
copies-next zero r = refl
copies-next (suc n) r = ap (λ l. r ∷ l) (copies-next n r)

pub length-copies : (n : ℕ) (r : List Cell) (rows : List (List Cell)) → length (copies n r rows) ≡ n + length rows
length-copies zero r rows = omega arith
length-copies (suc n) r rows = omega (arith, length-copies n r rows)

all_copies : (P : List Cell → Type 0) (n : ℕ) (r : List Cell) (rows : List (List Cell)) → P r → AllByRecursion P rows → AllByRecursion P (copies n r rows)
all_copies P zero r rows p all = all
all_copies P (suc n) r rows p all = (p, all_copies P n r rows p all)

copies-in_order : (n : ℕ) (r : List Cell) (rows : List (List Cell)) → AllByRecursion (λ y. is_gt (row_cmp r y) ≡ false) rows → IsInOrder rows → IsInOrder (copies n r rows)
copies-in_order zero r rows all sorted = sorted
copies-in_order (suc n) r rows all sorted = (all_copies (λ y. is_gt (row_cmp r y) ≡ false) n r rows (ap is_gt (tied_itself rows_total r)) all, copies-in_order n r rows all sorted)

count-copies : (q r : List Cell) (n : ℕ) (rows : List (List Cell)) → count_of q (copies n r rows) ≡ cond (is_eq (row_cmp q r)) n 0 + count_of q rows
count-copies q r n rows = elim (cases_Bool (is_eq (row_cmp q r))) [ inl tie ↦ rw tie (all_tied tie n) | inr apart ↦ rw apart (none_tied apart n) ] where
  all_tied : is_eq (row_cmp q r) ≡ true → (n : ℕ) → count_of q (copies n r rows) ≡ n + count_of q rows
  all_tied tie zero = omega arith
  all_tied tie (suc n) = rw tie (omega (arith, all_tied tie n))

  none_tied : is_eq (row_cmp q r) ≡ false → (n : ℕ) → count_of q (copies n r rows) ≡ 0 + count_of q rows
  none_tied apart zero = omega arith
  none_tied apart (suc n) = rw apart (omega (arith, none_tied apart n))

-- ---- rows with their numbers, each as often as a part of its number says

abbrev part : (ℤ → ℕ) → List Entry → List (List Cell)
part f [] = []
part f (e ∷ es) = copies (f e.1) e.0 (part f es)

all_part : (f : ℤ → ℕ) (P : List Cell → Type 0) (es : List Entry) → AllByRecursion (λ e. P e.0) es → AllByRecursion P (part f es)
all_part f P [] all = tt
all_part f P (e ∷ es) all = all_copies P (f e.1) e.0 (part f es) all.0 (all_part f P es all.1)

part-in_order : (f : ℤ → ℕ) (es : List Entry) → IsDelta es → IsInOrder (part f es)
part-in_order f [] delta = tt
part-in_order f (e ∷ es) delta = copies-in_order (f e.1) e.0 (part f es) (all_part f (λ y. is_gt (row_cmp e.0 y) ≡ false) es (all-each (λ g. row_cmp e.0 g.0 ≡ Less) (λ g. is_gt (row_cmp e.0 g.0) ≡ false) es (λ g h. ap is_gt h) delta.0)) (part-in_order f es delta.2)

count-part : (f : ℤ → ℕ) → f (pos 0) ≡ 0 → (q : List Cell) (es : List Entry) → IsDelta es → count_of q (part f es) ≡ f (number_of q es)
count-part f none q [] delta = sym none
count-part f none q (e ∷ es) delta = elim (cases_Bool (is_eq (row_cmp q e.0))) [
  | inl here ↦
      let before : number_of q es ≡ pos 0 = number-before q es (all-each (λ g. row_cmp e.0 g.0 ≡ Less) (λ g. row_cmp q g.0 ≡ Less) es (λ g h. ap (λ (x : List Cell). row_cmp x g.0) (same_rows q e.0 here) ∙ h) delta.0) in
      let rest : count_of q (part f es) ≡ 0 = count-part f none q es delta.2 ∙ ap f before ∙ none in
      count-copies q e.0 (f e.1) (part f es) ∙ rw here (omega arith)
  | inr other ↦ count-copies q e.0 (f e.1) (part f es) ∙ rw other (let rest : count_of q (part f es) ≡ f (number_of q es) = count-part f none q es delta.2 in omega arith)
]

gains-part : (es : List Entry) → part gained es ≡ gains es
gains-part [] = refl
gains-part (e ∷ es) = ap (copies (gained e.1) e.0) (gains-part es)

losses-part : (es : List Entry) → part lost es ≡ losses es
losses-part [] = refl
losses-part (e ∷ es) = ap (copies (lost e.1) e.0) (losses-part es)

pub gains-in_order : (es : List Entry) → IsDelta es → IsInOrder (gains es)
gains-in_order es delta = rw (← gains-part es) (part-in_order gained es delta)

pub losses-in_order : (es : List Entry) → IsDelta es → IsInOrder (losses es)
losses-in_order es delta = rw (← losses-part es) (part-in_order lost es delta)

pub count-gains : (q : List Cell) (es : List Entry) → IsDelta es → count_of q (gains es) ≡ gained (number_of q es)
count-gains q es delta = ap (count_of q) (sym (gains-part es)) ∙ count-part gained refl q es delta

pub count-losses : (q : List Cell) (es : List Entry) → IsDelta es → count_of q (losses es) ≡ lost (number_of q es)
count-losses q es delta = ap (count_of q) (sym (losses-part es)) ∙ count-part lost refl q es delta

-- ---- what is gained and lost

gained-less : (z : ℤ) (a b : ℕ) → z ≡ pos a -ℤ pos b → gained z ≡ a - b
gained-less (pos n) a b h = omega (arith, ints)
gained-less (negsuc n) a b h = omega (arith, ints)

lost-less : (z : ℤ) (a b : ℕ) → z ≡ pos a -ℤ pos b → lost z ≡ b - a
lost-less (pos n) a b h = omega (arith, ints)
lost-less (negsuc n) a b h = omega (arith, ints)

module _ (before now : List (List Cell)) (es : List Entry) (delta : IsDelta es) (change : IsChange before now es) where
  -- the positive part is what is there more often than before
  pub gains-difference : IsInOrder now → gains es ≡ difference now before
  gains-difference sorted = one_list (gains es) (difference now before) (gains-in_order es delta) (difference-in_order now before sorted) (λ q.
      ap (count_of q) (sym (gains-part es)) ∙ count-part gained refl q es delta ∙ gained-less (number_of q es) (count_of q now) (count_of q before) (change q) ∙ sym (count-difference q now before))

  -- the negative part what is there less often
  pub losses-difference : IsInOrder before → losses es ≡ difference before now
  losses-difference sorted = one_list (losses es) (difference before now) (losses-in_order es delta) (difference-in_order before now sorted) (λ q.
      ap (count_of q) (sym (losses-part es)) ∙ count-part lost refl q es delta ∙ lost-less (number_of q es) (count_of q now) (count_of q before) (change q) ∙ sym (count-difference q before now))

-- ---- what is written of a side

pub changed_from : (s : Side) (r : List Cell) (z : ℤ) (es : List Entry) → changed_rows s ((r, z) ∷ es) ≡ copies (times_of s z) r (changed_rows s es)
changed_from Gained r z es = refl
changed_from Lost r z es = refl
changed_from Standing r z es = refl

pub rows_from : (f : List Cell → OutRow) (n : ℕ) (r : List Cell) (rows : List (List Cell)) → map f (copies n r rows) ≡ replicate n (f r) ++ map f rows
rows_from f zero r rows = refl
rows_from f (suc n) r rows = ap (λ l. f r ∷ l) (rows_from f n r rows)

pub none_changed : (s : Side) → changed_rows s [] ≡ []
none_changed Gained = refl
none_changed Lost = refl
none_changed Standing = refl
