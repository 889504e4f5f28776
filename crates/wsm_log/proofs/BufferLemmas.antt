-- What is kept of a line, and where it stands in what was read.
use Rattle.std.proofs.Common.{◌≡◌, ◌<◌, ◌≤◌, ◌+◌, ◌-◌, ◌==◌, ◌∙◌, ℕ, zero, suc, List, [], ◌∷◌, ◌++◌, true, refl, sym, ap, ap₂, arith, drop, get_or, length, min, inl, inr, take, slice_range, length-take-le, vec_len}
use Rattle.std.proofs.lemmas.Grind.{common_steps}
use Rattle.std.proofs.lemmas.List.{drop-drop, drop-take, length-drop}
use Rattle.std.proofs.lemmas.Bool.{cases_Bool, eqb-true}
use Rattle.wsm_log.specs.LineBuffer.{line_in}
use Rattle.wsm_log.specs.declared.line_buffer.LineBuffer.{LineBuffer}
use Rattle.std.proofs.Math.Seq.{split_at, take-append-add, take-take}

-- the first of a part are the first of the whole
pub take-slice_range : (m s e : ℕ) (xs : List ℕ) → m ≤ e - s → take m (slice_range xs s e) ≡ take m (drop s xs)
take-slice_range m s e xs within = take-take m (e - s) (drop s xs) within

-- the first of the first
pub take-min : (m n : ℕ) (xs : List ℕ) → take m (take n xs) ≡ take (min n m) xs
take-min m n xs = grind (arith, common_steps)

-- as much of what comes behind as is kept with what was kept before
pub take-more : (most count : ℕ) (part ahead : List ℕ) → length part ≤ most → take most (part ++ take count ahead) ≡ part ++ take (min count (most - length part)) ahead
take-more most count part ahead fits =
    let all : length part + (most - length part) ≡ most = omega arith in
    ap (λ (n : ℕ). take n (part ++ take count ahead)) (sym all) ∙ take-append-add part (take count ahead) (most - length part)
    ∙ ap (λ (xs : List ℕ). part ++ xs) (take-min (most - length part) count ahead)

-- what is kept of all is what is kept of the rest behind what was kept before
pub take-kept : (most : ℕ) (seen piece : List ℕ) → take most (take most seen ++ piece) ≡ take most (seen ++ piece)
take-kept most [] piece = grind (arith, common_steps)
take-kept zero (x ∷ xs) piece = refl
take-kept (suc most) (x ∷ xs) piece = ap (λ (ys : List ℕ). x ∷ ys) (take-kept most xs piece)

-- what is behind the first of a part is a part
pub drop-slice_range : (n s e : ℕ) (xs : List ℕ) → s + n ≤ e → drop n (slice_range xs s e) ≡ slice_range xs (s + n) e
drop-slice_range n s e xs within =
    let all : e - s ≡ n + (e - (s + n)) = omega arith in
    ap (λ (m : ℕ). drop n (take m (drop s xs))) all ∙ drop-take n (e - (s + n)) (drop s xs) ∙ ap (take (e - (s + n))) (drop-drop n s xs)

pub length-slice_range : (s e : ℕ) (xs : List ℕ) → e ≤ length xs → length (slice_range xs s e) ≡ e - s
length-slice_range s e xs within = length-take-le (e - s) (drop s xs) (omega (arith, length-drop s xs))

-- a line feed, and what is in front of it and behind
pub split_at_feed : (place : ℕ) (xs : List ℕ) → place < length xs → (get_or xs place 0 == 10) ≡ true → xs ≡ take place xs ++ 10 ∷ drop (place + 1) xs
split_at_feed place xs within is =
    let next : suc place ≡ place + 1 = omega arith in
    split_at xs place 0 within ∙ ap₂ (λ (b n : ℕ). take place xs ++ b ∷ drop n xs) (eqb-true (get_or xs place 0) 10 is) next

-- what is kept of bytes that come behind what was kept before
pub take-part : (most start end count given : ℕ) (bytes part grown : List ℕ) → length part ≤ most → end ≤ length bytes → count ≤ length (slice_range bytes start end) → given ≡ min count (most - length part)
    → grown ≡ part ++ slice_range bytes start (start + given) → grown ≡ take most (part ++ take count (slice_range bytes start end))
take-part most start end count given bytes part grown fits within few is added =
    let there : count ≤ end - start = omega (arith, few, length-slice_range start end bytes within) in
    let as_many : (start + given) - start ≡ min count (most - length part) = omega (arith, is) in
    let same : take (min count (most - length part)) (slice_range bytes start end) ≡ take (min count (most - length part)) (drop start bytes) = take-slice_range (min count (most - length part)) start end bytes (omega (arith, there)) in
    added ∙ ap (λ (xs : List ℕ). part ++ xs) (ap (λ (n : ℕ). take n (drop start bytes)) as_many ∙ sym same) ∙ sym (take-more most count part (slice_range bytes start end) fits)

-- a line of which a part was read before is all there
pub line_in-part : (b : LineBuffer) → 0 < length b.part.items → line_in b ≡ b.part.items
line_in-part b some =
    elim (cases_Bool (vec_len b.part == 0)) [
      | inl none ↦ absurd (omega (arith, some, eqb-true (vec_len b.part) 0 none, b.part.ok.0))
      | inr is ↦ rw is refl
    ]
