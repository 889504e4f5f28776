-- The first line of a text.
use Rattle.std.proofs.Common.{ap, ◌≡◌, ◌<◌, ◌==◌, [], ◌∷◌, ℕ, zero, suc, List, true, arith, drop, get_or, length, refl, take, inl, inr}
use Rattle.std.proofs.lemmas.Bool.{cases_Bool}
use Rattle.std.specs.Prelude.{Some, None, slice_get}
use Rattle.wsm_log.specs.LinesOf.{lines_of}

-- the one that ends at the first line feed
pub line_up_to : (text : List ℕ) (end : ℕ) → end < length text → (get_or text end 0 == 10) ≡ true → ((k : ℕ) → k < end → (get_or text k 0 == 10) ≡ true → ⊥)
    → lines_of text ≡ take end text ∷ lines_of (drop (suc end) text)
line_up_to [] end within is before = absurd (omega (arith, within))
line_up_to (b ∷ bs) zero within is before = rw is refl
line_up_to (b ∷ bs) (suc end) within is before =
    let rest = line_up_to bs end (omega (arith, within)) is (λ k h. before (suc k) (omega (arith, h))) in
    elim (cases_Bool (b == 10)) [
      | inl here ↦ absurd (before 0 (omega arith) here)
      | inr other ↦ rw (other, rest) refl
    ]

-- the only one, where there is no line feed
only_line : (b : ℕ) (bs : List ℕ) → ((k : ℕ) → k < length (b ∷ bs) → (get_or (b ∷ bs) k 0 == 10) ≡ true → ⊥) → lines_of (b ∷ bs) ≡ (b ∷ bs) ∷ []
only_line b [] none = elim (cases_Bool (b == 10)) [
  | inl here ↦ absurd (none 0 (omega arith) here)
  | inr other ↦ rw other refl
]
only_line b (c ∷ cs) none =
    let rest = only_line c cs (λ k h. none (suc k) (omega (arith, h))) in
    elim (cases_Bool (b == 10)) [
      | inl here ↦ absurd (none 0 (omega arith) here)
      | inr other ↦ rw (other, rest) refl
    ]

pub only_line_of : (text : List ℕ) → 0 < length text → ((k : ℕ) → k < length text → (get_or text k 0 == 10) ≡ true → ⊥) → lines_of text ≡ text ∷ []
only_line_of [] some none = absurd (omega (arith, some))
only_line_of (b ∷ bs) some none = only_line b bs none

-- ---- the first cell of a row

pub first_cell : (cells : List (List ℕ)) (cell : List ℕ) → slice_get cells 0 ≡ Some cell → cells ≡ cell ∷ drop 1 cells
first_cell [] cell e = cc e
first_cell (x ∷ xs) cell e = ap (λ (c : List ℕ). c ∷ xs) (cc e)

pub no_first_cell : (cells : List (List ℕ)) → slice_get cells 0 ≡ None → cells ≡ []
no_first_cell [] e = refl
no_first_cell (x ∷ xs) e = cc e
