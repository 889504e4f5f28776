-- The first line of a text.
use Rattle.std.proofs.Common.{◌≡◌, ◌<◌, ◌==◌, [], ◌∷◌, ℕ, zero, suc, List, true, arith, drop, get_or, length, refl, take, inl, inr}
use Rattle.std.proofs.lemmas.Bool.{cases_Bool}
use Rattle.wsm_deal.specs.Keys.{lines_of}

-- the one that ends at the first line feed
pub line_up_to : (text : List ℕ) (end : ℕ) → end < length text → (get_or text end 0 == 10) ≡ true → ((k : ℕ) → k < end → (get_or text k 0 == 10) ≡ true → ⊥)
    → lines_of text ≡ take end text ∷ lines_of (drop (suc end) text)
unfolding lines_of
line_up_to [] end within is before = absurd (omega (arith, within))
line_up_to (b ∷ bs) zero within is before = rw is refl
line_up_to (b ∷ bs) (suc end) within is before =
    let rest = line_up_to bs end (omega (arith, within)) is (λ k h. before (suc k) (omega (arith, h))) in
    elim (cases_Bool (b == 10)) [
      | inl here ↦ absurd (before 0 (omega arith) here)
      | inr other ↦ rw (other, rest) refl
    ]

-- the only one, where there is no line feed
only_line : (b : ℕ) (bs : List ℕ) → ((k : ℕ) → k < length (b ∷ bs) → (get_or (b ∷ bs) k 0 == 10) ≡ true → ⊥) → lines_of (b ∷ bs) ≡ (b ∷ bs) ∷ []
unfolding lines_of
only_line b [] none = elim (cases_Bool (b == 10)) [
  | inl here ↦ absurd (none 0 (omega arith) here)
  | inr other ↦ rw other refl
]
only_line b (c ∷ cs) none =
    let rest = only_line c cs (λ k h. none (suc k) (omega (arith, h))) in
    elim (cases_Bool (b == 10)) [
      | inl here ↦ absurd (none 0 (omega arith) here)
      | inr other ↦ rw (other, rest) refl
    ]

pub only_line_of : (text : List ℕ) → 0 < length text → ((k : ℕ) → k < length text → (get_or text k 0 == 10) ≡ true → ⊥) → lines_of text ≡ text ∷ []
only_line_of [] some none = absurd (omega (arith, some))
only_line_of (b ∷ bs) some none = only_line b bs none
