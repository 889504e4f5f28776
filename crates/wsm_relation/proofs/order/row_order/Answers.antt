use Rattle.std.proofs.Common.{◌≡◌, ◌⊎◌, ℕ, zero, suc, ◌≤◌, List, [], ◌∷◌, length, drop, sym, ◌∙◌, inl, inr, refl, arith}
use Rattle.std.specs.Ordering.{nat_cmp}
use Rattle.std.proofs.lemmas.Bool.Decides.{nat_tests}
use Rattle.wsm_record.specs.declared.cell.Cell.{Cell}
use Rattle.wsm_semantics.specs.Relation.{row_cmp}
use Rattle.wsm_relation.proofs.order.row_order.Goals as goal
use Rattle.wsm_relation.proofs.order.row_order.Goals.{then-loop-i-test+else-i-other, else-loop-i-test}

nat_cmp-suc : (m n : ℕ) → nat_cmp (suc m) (suc n) ≡ nat_cmp m n
nat_cmp-suc m n = grind (arith, nat_tests)

-- where one row has ended, their lengths tell
row_cmp-end : (i : ℕ) (xs ys : List Cell) → i ≤ length xs → i ≤ length ys → (length xs ≤ i) ⊎ (length ys ≤ i) → nat_cmp (length xs) (length ys) ≡ row_cmp (drop i xs) (drop i ys)
row_cmp-end zero [] [] h k end = refl
row_cmp-end zero [] (y ∷ ys) h k end = grind (arith, nat_tests)
row_cmp-end zero (x ∷ xs) [] h k end = grind (arith, nat_tests)
row_cmp-end zero (x ∷ xs) (y ∷ ys) h k (inl e) = absurd (omega arith)
row_cmp-end zero (x ∷ xs) (y ∷ ys) h k (inr e) = absurd (omega arith)
row_cmp-end (suc i) [] ys h k end = absurd (omega arith)
row_cmp-end (suc i) (x ∷ xs) [] h k end = absurd (omega arith)
row_cmp-end (suc i) (x ∷ xs) (y ∷ ys) h k (inl e) = nat_cmp-suc (length xs) (length ys) ∙ row_cmp-end i xs ys (omega arith) (omega arith) (inl (omega arith))
row_cmp-end (suc i) (x ∷ xs) (y ∷ ys) h k (inr e) = nat_cmp-suc (length xs) (length ys) ∙ row_cmp-end i xs ys (omega arith) (omega arith) (inr (omega arith))

pub returns : goal.returns
returns c =
    let ended : (length c.args.row.now ≤ c.loop-i.i) ⊎ (length c.args.other.now ≤ c.loop-i.i) = elim c.loop-i-test.branch [ then-loop-i-test+else-i-other w ↦ inr (omega arith) | else-loop-i-test w ↦ inl (omega arith) ] in
    c.cmp.ensures ∙ row_cmp-end c.loop-i.i c.args.row.now c.args.other.now c.loop-i.invariant.row c.loop-i.invariant.other ended ∙ sym c.loop-i.invariant.alike
