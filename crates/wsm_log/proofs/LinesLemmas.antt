-- How lines follow the bytes that a reader had, where those are known.
use Rattle.std.proofs.Common.{◌≡◌, ◌<◌, ◌≤◌, ◌==◌, ◌∙◌, ℕ, zero, suc, List, [], ◌∷◌, ◌++◌, true, refl, sym, ap, arith, get_or, length, map, take, inl, inr, append_assoc}
use Rattle.std.proofs.lemmas.Bool.{cases_Bool}
use Rattle.wsm_log.specs.LinesOf.{HasNoFeed, kept, kept_lines_of, lines_of}

-- the line that ends at the first line feed
pub lines_of-line : (line rest : List ℕ) → HasNoFeed line → lines_of (line ++ 10 ∷ rest) ≡ line ∷ lines_of rest
lines_of-line [] rest plain = refl
lines_of-line (b ∷ bs) rest plain = rw (plain.0, lines_of-line bs rest plain.1) refl

-- the last line, where no line feed ends it
pub lines_of-last : (line : List ℕ) → 0 < length line → HasNoFeed line → lines_of line ≡ line ∷ []
lines_of-last [] some plain = absurd (omega (arith, some))
lines_of-last (b ∷ []) some plain = rw plain.0 refl
lines_of-last (b ∷ c ∷ cs) some plain = rw (plain.0, lines_of-last (c ∷ cs) (omega arith) plain.1) refl

pub HasNoFeed-append : (xs ys : List ℕ) → HasNoFeed xs → HasNoFeed ys → HasNoFeed (xs ++ ys)
HasNoFeed-append [] ys p q = q
HasNoFeed-append (x ∷ xs) ys p q = (p.0, HasNoFeed-append xs ys p.1 q)

-- no place has one
pub HasNoFeed-none : (xs : List ℕ) → ((k : ℕ) → k < length xs → (get_or xs k 0 == 10) ≡ true → ⊥) → HasNoFeed xs
HasNoFeed-none [] none = tt
HasNoFeed-none (x ∷ xs) none =
    let later = HasNoFeed-none xs (λ k h. none (suc k) (omega (arith, h))) in
    elim (cases_Bool (x == 10)) [
      | inl here ↦ absurd (none 0 (omega arith) here)
      | inr other ↦ (other, later)
    ]

-- no place in front of this one has one
pub HasNoFeed-before : (xs : List ℕ) (end : ℕ) → end ≤ length xs → ((k : ℕ) → k < end → (get_or xs k 0 == 10) ≡ true → ⊥) → HasNoFeed (take end xs)
HasNoFeed-before xs zero within before = tt
HasNoFeed-before [] (suc end) within before = tt
HasNoFeed-before (x ∷ xs) (suc end) within before =
    let later = HasNoFeed-before xs end (omega (arith, within)) (λ k h. before (suc k) (omega (arith, h))) in
    elim (cases_Bool (x == 10)) [
      | inl here ↦ absurd (before 0 (omega arith) here)
      | inr other ↦ (other, later)
    ]

-- one line more
pub more_lines : (longest : ℕ) (bytes : List ℕ) (lines : List (List ℕ)) (left line rest : List ℕ) → lines_of left ≡ line ∷ lines_of rest
    → lines ++ kept_lines_of longest left ≡ kept_lines_of longest bytes → (lines ++ kept longest line ∷ []) ++ kept_lines_of longest rest ≡ kept_lines_of longest bytes
more_lines longest bytes lines left line rest is so_far = append_assoc lines (kept longest line ∷ []) (kept_lines_of longest rest) ∙ ap (λ more. lines ++ map (kept longest) more) (sym is) ∙ so_far
