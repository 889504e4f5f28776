-- One step of a walk along two lists of boxed rows, towards the difference of their rows.
use Rattle.std.proofs.Common.{◌≡◌, ℕ, ◌+◌, ◌<◌, ◌≤◌, List, [], ◌∷◌, length, get_or, drop, refl, sym, ap, subst, ◌∙◌}
use Rattle.std.specs.Global.{Box}
use Rattle.std.specs.declared.cmp.Ordering.TheVariants.{Less, Equal, Greater}
use Rattle.wsm_record.specs.declared.cell.Cell.{Cell}
use Rattle.wsm_semantics.specs.Relation.{row_cmp, difference}
use Rattle.wsm_relation.specs.Rows.{rows_in, IsInOrder}
use Rattle.wsm_relation.proofs.Bags.{difference-nil, difference-before, difference-tied, difference-behind, drop-in_order}
use Rattle.wsm_relation.proofs.Boxes.{drop-here, drop-end, same_box}

module _ (rows others : List (Box (List Cell))) (i j : ℕ) where
  abbrev pub left : ℕ → ℕ → List (List Cell)
  left m n = difference (drop m (rows_in rows)) (drop n (rows_in others))

  pub left-end : length rows ≤ i → left i j ≡ []
  left-end h = ap (λ l. difference l (drop j (rows_in others))) (drop-end rows i h) ∙ difference-nil (drop j (rows_in others))

  pub left-alone : (a : Box (List Cell)) → i < length rows → a ≡ get_or rows i a → length others ≤ j → left i j ≡ a.value ∷ left (i + 1) j
  left-alone a h at end = rw (drop-end others j end, drop-here rows i a h at) refl

  module _ (a b : Box (List Cell)) (h : i < length rows) (k : j < length others) (at : a ≡ get_or rows i a) (bt : b ≡ get_or others j b) where
    both_here : left i j ≡ difference (a.value ∷ drop (i + 1) (rows_in rows)) (b.value ∷ drop (j + 1) (rows_in others))
    both_here = λ t. difference (drop-here rows i a h at t) (drop-here others j b k bt t)

    others_from : IsInOrder (rows_in others) → IsInOrder (b.value ∷ drop (j + 1) (rows_in others))
    others_from sorted = subst IsInOrder (drop-here others j b k bt) (drop-in_order (rows_in others) j sorted)

    rows_from : IsInOrder (rows_in rows) → IsInOrder (a.value ∷ drop (i + 1) (rows_in rows))
    rows_from sorted = subst IsInOrder (drop-here rows i a h at) (drop-in_order (rows_in rows) i sorted)

    pub left-before : IsInOrder (rows_in others) → row_cmp a.value b.value ≡ Less → (c : Box (List Cell)) → c ≡ get_or rows i c → left i j ≡ c.value ∷ left (i + 1) j
    left-before sorted less c ct =
        both_here
        ∙ difference-before a.value b.value (drop (i + 1) (rows_in rows)) (drop (j + 1) (rows_in others)) (others_from sorted) less
        ∙ (λ t. same_box rows i a c h at ct t ∷ difference (drop (i + 1) (rows_in rows)) (sym (drop-here others j b k bt) t))

    pub left-tied : row_cmp a.value b.value ≡ Equal → left i j ≡ left (i + 1) (j + 1)
    left-tied tie = both_here ∙ difference-tied a.value b.value (drop (i + 1) (rows_in rows)) (drop (j + 1) (rows_in others)) tie

    pub left-behind : IsInOrder (rows_in rows) → row_cmp a.value b.value ≡ Greater → left i j ≡ left i (j + 1)
    left-behind sorted more =
        both_here
        ∙ difference-behind a.value b.value (drop (i + 1) (rows_in rows)) (drop (j + 1) (rows_in others)) (rows_from sorted) more
        ∙ (λ t. difference (sym (drop-here rows i a h at) t) (drop (j + 1) (rows_in others)))
