-- Lines that have ended, in parts of a text.
use Rattle.std.proofs.Common.{◌≡◌, ◌≤◌, ◌==◌, ◌+◌, ◌∙◌, ℕ, zero, suc, List, [], ◌∷◌, ◌++◌, refl, sym, ap, ap₂, arith, drop, length, map, take, inl, inr, append_assoc, append-nil}
use Rattle.std.proofs.lemmas.Bool.{cases_Bool}
use Rattle.std.proofs.lemmas.List.{drop-append-le, drop-drop, map-append, take-take}
use Rattle.std.specs.List.{onto_first}
use Rattle.wsm_log.specs.LinesOf.{HasNoFeed, lines_of}
use Rattle.wsm_log.proofs.BufferLemmas.{take-kept}
use Rattle.wsm_follow.specs.Ended.{ended_from, ended_lines}
use Rattle.wsm_follow.specs.Logs.{StandsAt}

-- bytes without a line feed go to the line that begins
pub ended-plain : (part seen rest : List ℕ) → HasNoFeed seen → ended_from part (seen ++ rest) ≡ ended_from (part ++ seen) rest
ended-plain part [] rest plain = ap (λ (xs : List ℕ). ended_from xs rest) (sym (append-nil part))
ended-plain part (b ∷ bs) rest plain = rw plain.0 (ended-plain (part ++ b ∷ []) bs rest plain.1 ∙ ap (λ (xs : List ℕ). ended_from xs rest) (append_assoc part (b ∷ []) bs))

-- a line feed parts a text
pub ended-feed : (part front rest : List ℕ) → ended_from part (front ++ 10 ∷ rest) ≡ ended_from part (front ++ 10 ∷ []) ++ ended_lines rest
ended-feed part [] rest = refl
ended-feed part (b ∷ bs) rest =
    elim (cases_Bool (b == 10)) [
      | inl feed ↦ rw feed (ap (λ (ls : List (List ℕ)). part ∷ ls) (ended-feed [] bs rest))
      | inr other ↦ rw other (ended-feed (part ++ b ∷ []) bs rest)
    ]

-- of lines that begin alike the same is kept
pub ended-alike : (most : ℕ) (p q bytes : List ℕ) → take most p ≡ take most q → map (take most) (ended_from p bytes) ≡ map (take most) (ended_from q bytes)
ended-alike most p q [] alike = refl
ended-alike most p q (b ∷ bs) alike =
    elim (cases_Bool (b == 10)) [
      | inl feed ↦ rw feed (ap (λ (l : List ℕ). l ∷ map (take most) (ended_lines bs)) alike)
      | inr other ↦ rw other (ended-alike most (p ++ b ∷ []) (q ++ b ∷ []) bs
          (sym (take-kept most p (b ∷ [])) ∙ ap (λ (l : List ℕ). take most (l ++ b ∷ [])) alike ∙ take-kept most q (b ∷ [])))
    ]

-- behind bytes without a line feed, of which a part was kept, come lines up to a line feed
pub ended-kept : (most : ℕ) (seen front rest : List ℕ) → HasNoFeed seen
    → map (take most) (ended_lines (take most seen ++ (front ++ 10 ∷ []))) ++ map (take most) (ended_lines rest) ≡ map (take most) (ended_lines (seen ++ (front ++ 10 ∷ rest)))
ended-kept most seen front rest plain =
    let cut : ended_lines (take most seen ++ (front ++ 10 ∷ [])) ≡ ended_from (take most seen) (front ++ 10 ∷ []) = ended-plain [] (take most seen) (front ++ 10 ∷ []) (plain-take most seen plain) in
    let whole : ended_lines (seen ++ (front ++ 10 ∷ rest)) ≡ ended_from seen (front ++ 10 ∷ []) ++ ended_lines rest = ended-plain [] seen (front ++ 10 ∷ rest) plain ∙ ended-feed seen front rest in
    let alike : map (take most) (ended_from (take most seen) (front ++ 10 ∷ [])) ≡ map (take most) (ended_from seen (front ++ 10 ∷ [])) = ended-alike most (take most seen) seen (front ++ 10 ∷ []) (take-take most most seen (omega arith)) in
    ap (λ (ls : List (List ℕ)). map (take most) ls ++ map (take most) (ended_lines rest)) cut
    ∙ ap (λ (ls : List (List ℕ)). ls ++ map (take most) (ended_lines rest)) alike
    ∙ sym (map-append (take most) (ended_from seen (front ++ 10 ∷ [])) (ended_lines rest))
    ∙ ap (map (take most)) (sym whole)
  where
    plain-take : (most : ℕ) (xs : List ℕ) → HasNoFeed xs → HasNoFeed (take most xs)
    plain-take zero xs plain = tt
    plain-take (suc most) [] plain = tt
    plain-take (suc most) (x ∷ xs) plain = (plain.0, plain-take most xs plain.1)

-- what stands behind a part of what stands at a place
pub stands_behind : (bytes : List ℕ) (at count : ℕ) (text : List ℕ) → count ≤ length text → StandsAt bytes at text → drop (at + count) bytes ≡ drop count text ++ drop (at + length text) bytes
stands_behind bytes at count text within stands =
    sym (drop-drop count at bytes) ∙ ap (drop count) stands ∙ drop-append-le count text (drop (at + length text) bytes) within

-- more of the bytes without a line feed
pub stands_more : (bytes : List ℕ) (start at : ℕ) (seen text : List ℕ) → drop start bytes ≡ seen ++ drop at bytes → StandsAt bytes at text → drop start bytes ≡ (seen ++ text) ++ drop (at + length text) bytes
stands_more bytes start at seen text so_far stands =
    so_far ∙ ap (λ (xs : List ℕ). seen ++ xs) stands ∙ sym (append_assoc seen text (drop (at + length text) bytes))

-- the lines of a text that ends with a line feed
abbrev onto : List ℕ → List (List ℕ) → List (List ℕ)
onto part [] = part ∷ []
onto part (l ∷ ls) = (part ++ l) ∷ ls

onto-first : (part : List ℕ) (b : ℕ) (ls : List (List ℕ)) → onto (part ++ b ∷ []) ls ≡ onto part (onto_first b ls)
onto-first part b [] = refl
onto-first part b (l ∷ ls) = ap (λ (xs : List ℕ). xs ∷ ls) (append_assoc part (b ∷ []) l)

onto-nothing : (b : ℕ) (bs : List ℕ) → onto [] (lines_of (b ∷ bs)) ≡ lines_of (b ∷ bs)
onto-nothing b bs =
    elim (cases_Bool (b == 10)) [
      | inl feed ↦ rw feed refl
      | inr other ↦ rw other (onto-some b (lines_of bs))
    ]
  where
    onto-some : (b : ℕ) (ls : List (List ℕ)) → onto [] (onto_first b ls) ≡ onto_first b ls
    onto-some b [] = refl
    onto-some b (l ∷ ls) = refl

ended-lines : (part front : List ℕ) → ended_from part (front ++ 10 ∷ []) ≡ onto part (lines_of (front ++ 10 ∷ []))
ended-lines part [] = ap (λ (xs : List ℕ). xs ∷ []) (sym (append-nil part))
ended-lines part (b ∷ bs) =
    elim (cases_Bool (b == 10)) [
      | inl feed ↦ rw feed (ap₂ (λ (l : List ℕ) (ls : List (List ℕ)). l ∷ ls) (sym (append-nil part)) (ended-lines [] bs ∙ nothing bs))
      | inr other ↦ rw other (ended-lines (part ++ b ∷ []) bs ∙ onto-first part b (lines_of (bs ++ 10 ∷ [])))
    ]
  where
    nothing : (bs : List ℕ) → onto [] (lines_of (bs ++ 10 ∷ [])) ≡ lines_of (bs ++ 10 ∷ [])
    nothing [] = onto-nothing 10 []
    nothing (b ∷ bs) = onto-nothing b (bs ++ 10 ∷ [])

pub lines_of-ended : (front : List ℕ) → ended_lines (front ++ 10 ∷ []) ≡ lines_of (front ++ 10 ∷ [])
lines_of-ended [] = refl
lines_of-ended (b ∷ bs) = ended-lines [] (b ∷ bs) ∙ onto-nothing b (bs ++ 10 ∷ [])
