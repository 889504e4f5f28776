-- Texts and their cells.
use Rattle.std.proofs.Common.{◌≡◌, ◌∙◌, ◌<◌, ◌+◌, ◌==◌, ℕ, zero, suc, List, [], ◌∷◌, ◌++◌, true, refl, sym, ap, arith, get_or, length, take, drop, inl, inr, append_assoc, append-nil}
use Rattle.std.proofs.lemmas.Bool.{cases_Bool}
use Rattle.std.proofs.lemmas.List.{take_more}
use Rattle.wsm_row_watermarks.specs.Lines.{behind_commas, cells_of, joined, without}

-- the first cell ends in front of the first comma
cells_up_to : (xs : List ℕ) (end : ℕ) → end < length xs → ((k : ℕ) → k < end → (get_or xs k 0 == 44) ≡ true → ⊥) → (get_or xs end 0 == 44) ≡ true → cells_of xs ≡ take end xs ∷ cells_of (drop (suc end) xs)
cells_up_to [] end within before is = absurd (omega (arith, within))
cells_up_to (x ∷ xs) zero within before is = rw is refl
cells_up_to (x ∷ xs) (suc end) within before is =
    let later = cells_up_to xs end (omega (arith, within)) (λ k h. before (suc k) (omega (arith, h))) is in
    elim (cases_Bool (x == 44)) [
      | inl here ↦ absurd (before 0 (omega arith) here)
      | inr other ↦ rw (other, later) refl
    ]

-- where there is none all is one cell
pub one_cell : (xs : List ℕ) → ((k : ℕ) → k < length xs → (get_or xs k 0 == 44) ≡ true → ⊥) → cells_of xs ≡ xs ∷ []
one_cell [] none = refl
one_cell (x ∷ xs) none =
    let later = one_cell xs (λ k h. none (suc k) (omega (arith, h))) in
    elim (cases_Bool (x == 44)) [
      | inl here ↦ absurd (none 0 (omega arith) here)
      | inr other ↦ rw (other, later) refl
    ]

-- one cell more was read
pub more_cells : (cells : List (List ℕ)) (all xs : List ℕ) (end : ℕ) → end < length xs → ((k : ℕ) → k < end → (get_or xs k 0 == 44) ≡ true → ⊥) → (get_or xs end 0 == 44) ≡ true
    → cells ++ cells_of xs ≡ cells_of all → (cells ++ take end xs ∷ []) ++ cells_of (drop (end + 1) xs) ≡ cells_of all
more_cells cells all xs end within before is so_far =
    let next : suc end ≡ end + 1 = omega arith in
    append_assoc cells (take end xs ∷ []) (cells_of (drop (end + 1) xs))
    ∙ ap (λ (n : ℕ). cells ++ take end xs ∷ cells_of (drop n xs)) (sym next)
    ∙ ap (λ (cs : List (List ℕ)). cells ++ cs) (sym (cells_up_to xs end within before is)) ∙ so_far

-- ---- a list without one of its places

-- the place that is left out
at_place : {A : Type 0} (place : ℕ) (xs : List A) → without place (take (suc place) xs) ≡ without place (take place xs)
at_place zero [] = refl
at_place (suc place) [] = refl
at_place zero (x ∷ xs) = refl
at_place (suc place) (x ∷ xs) = ap (λ ys. x ∷ ys) (at_place place xs)

pub without_at : {A : Type 0} (place : ℕ) (xs : List A) → without place (take (place + 1) xs) ≡ without place (take place xs)
without_at place xs = let on : place + 1 ≡ suc place = omega arith in ap (λ (n : ℕ). without place (take n xs)) on ∙ at_place place xs

-- another one
next_taken : {A : Type 0} (xs : List A) (at : ℕ) (d : A) → at < length xs → take (suc at) xs ≡ take at xs ++ get_or xs at d ∷ []
next_taken xs at d within = let on : suc at ≡ at + 1 = omega arith in ap (λ (n : ℕ). take n xs) on ∙ take_more xs at d within

at_other : {A : Type 0} (place at : ℕ) (xs : List A) (d : A) → at < length xs → (at ≡ place → ⊥) → without place (take (suc at) xs) ≡ without place (take at xs) ++ get_or xs at d ∷ []
at_other place at [] d within other = absurd (omega (arith, within))
at_other zero zero (x ∷ xs) d within other = absurd (other refl)
at_other zero (suc at) (x ∷ xs) d within other = next_taken xs at d (omega (arith, within))
at_other (suc place) zero (x ∷ xs) d within other = refl
at_other (suc place) (suc at) (x ∷ xs) d within other = ap (λ ys. x ∷ ys) (at_other place at xs d (omega (arith, within)) (λ e. other (ap suc e)))

pub without_other : {A : Type 0} (place at : ℕ) (xs : List A) (d : A) → at < length xs → (at ≡ place → ⊥) → without place (take (at + 1) xs) ≡ without place (take at xs) ++ get_or xs at d ∷ []
without_other place at xs d within other = let on : at + 1 ≡ suc at = omega arith in ap (λ (n : ℕ). without place (take n xs)) on ∙ at_other place at xs d within other

-- ---- the text of cells

behind_more : (xs : List (List ℕ)) (x : List ℕ) → behind_commas (xs ++ x ∷ []) ≡ behind_commas xs ++ 44 ∷ x
behind_more [] x = ap (λ (l : List ℕ). 44 ∷ l) (append-nil x)
behind_more (y ∷ ys) x = ap (λ (l : List ℕ). 44 ∷ y ++ l) (behind_more ys x) ∙ ap (λ (l : List ℕ). 44 ∷ l) (sym (append_assoc y (behind_commas ys) (44 ∷ x)))

-- the first has no comma
pub joined_first : (xs : List (List ℕ)) (x : List ℕ) → 0 < length xs → x ≡ get_or xs 0 [] → joined (take 1 xs) ≡ x
joined_first [] x some is = absurd (omega (arith, some))
joined_first (y ∷ ys) x some is = append-nil y ∙ sym is

joined_behind : (xs : List (List ℕ)) (x : List ℕ) → 0 < length xs → joined (xs ++ x ∷ []) ≡ joined xs ++ 44 ∷ x
joined_behind [] x some = absurd (omega (arith, some))
joined_behind (y ∷ ys) x some = ap (λ (l : List ℕ). y ++ l) (behind_more ys x) ∙ sym (append_assoc y (behind_commas ys) (44 ∷ x))

-- another one has one in front
pub joined_more : (xs : List (List ℕ)) (at : ℕ) → 0 < at → at < length xs → joined (take (at + 1) xs) ≡ joined (take at xs) ++ 44 ∷ get_or xs at []
joined_more xs at some within = ap joined (take_more xs at [] within) ∙ joined_behind (take at xs) (get_or xs at []) (taken xs at some within)
  where
    taken : (ys : List (List ℕ)) (n : ℕ) → 0 < n → n < length ys → 0 < length (take n ys)
    taken [] n p q = absurd (omega (arith, q))
    taken (y ∷ ys) zero p q = absurd (omega (arith, p))
    taken (y ∷ ys) (suc n) p q = omega arith
