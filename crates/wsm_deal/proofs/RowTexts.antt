-- A row that shows no byte, and a text that is made longer.
use Rattle.std.proofs.Common.{◌≡◌, ◌≢◌, ◌==◌, ◌∷◌, ◌++◌, ◌∙◌, [], ℕ, suc, List, true, false, refl, sym, ap, length, length-append, append_assoc, get_or, take, take-take, inl, inr, arith}
use Rattle.std.proofs.Math.Seq.{take-append_seam}
use Rattle.std.specs.Prelude.{◌+◌, ◌-◌, ◌<◌, ◌≤◌}
use Rattle.std.proofs.lemmas.Bool.{cases_Bool, ne_eqb}
use Rattle.std.proofs.lemmas.List.{take_all}
use Rattle.std.specs.List.{list_any}
use Rattle.csv.specs.Writing.{default_writer, escaped, field_text, is_blank, needs_byte, next_sep, row_body, row_text}
use Rattle.csv.proofs.WriteFacts.{row-step}

more_than_none : (xs : List ℕ) → (suc (length xs) == 0) ≡ false
more_than_none xs = ne_eqb (suc (length xs)) 0 (λ z. cc z)

-- a row of one cell shows no byte where the cell has none
blank_one : (cell : List ℕ) → is_blank default_writer (cell ∷ []) ≡ (length cell == 0)
unfolding is_blank
blank_one [] = refl
blank_one (b ∷ rest) = elim (cases_Bool (list_any (needs_byte default_writer) (b ∷ rest))) [
  | inl needs ↦ rw needs (more_than_none (escaped default_writer (b ∷ rest) ++ 34 ∷ []) ∙ sym (more_than_none rest))
  | inr plain ↦ rw plain refl
]

pub blank_of_none : (cells : List (List ℕ)) → length cells ≡ 0 → true ≡ is_blank default_writer cells
unfolding is_blank
blank_of_none [] e = refl
blank_of_none (x ∷ xs) e = absurd (omega arith)

pub blank_of_one : (cells : List (List ℕ)) → length cells ≡ 1 → is_blank default_writer cells ≡ (length (get_or cells 0 []) == 0)
blank_of_one [] e = cc e
blank_of_one (x ∷ []) e = blank_one x
blank_of_one (x ∷ y ∷ ys) e = absurd (omega arith)

pub blank_of_more : (cells : List (List ℕ)) → length cells ≢ 0 → length cells ≢ 1 → false ≡ is_blank default_writer cells
unfolding is_blank
blank_of_more [] e h = absurd (e refl)
blank_of_more (x ∷ []) e h = absurd (h refl)
blank_of_more (x ∷ y ∷ ys) e h = refl

-- what keeps the text that a text is the start of keeps that text
pub start_kept : (start longer new rest : List ℕ) → longer ≡ start ++ rest → take (length longer) new ≡ longer → take (length start) new ≡ start
start_kept start longer new rest more kept =
    let le : length start ≤ length longer = rw more (simp (length-append) (omega arith)) in
    sym (take-take (length start) (length longer) new le) ∙ rw (kept, more) (take-append_seam start rest)

-- the text of the first cell
pub first_body : (cells : List (List ℕ)) → 0 < length cells → row_body default_writer (take 1 cells) ≡ field_text default_writer (get_or cells 0 [])
first_body cells some = row-step default_writer cells 0 some

-- that of the cells up to one more, which isn't the first
pub next_body : (cells : List (List ℕ)) (i : ℕ) → 0 < i → i < length cells
    → row_body default_writer (take (i + 1) cells) ≡ row_body default_writer (take i cells) ++ (44 ∷ field_text default_writer (get_or cells i []))
next_body cells i some within =
    let other : (i == 0) ≡ false = ne_eqb i 0 (λ z. omega (arith, some, z)) in
    let comma : next_sep default_writer i ≡ 44 ∷ [] = rw other refl in
    row-step default_writer cells i within
    ∙ ap (λ (t : List ℕ). row_body default_writer (take i cells) ++ (t ++ field_text default_writer (get_or cells i []))) comma

-- that of a row of two cells or more
pub text_of_more : (cells : List (List ℕ)) → 2 ≤ length cells → row_text default_writer cells ≡ row_body default_writer cells ++ 10 ∷ []
text_of_more cells more =
    let shows : is_blank default_writer cells ≡ false = sym (blank_of_more cells (λ e. omega (arith, more, e)) (λ e. omega (arith, more, e))) in
    rw shows refl

-- the first cell, and a comma behind it
pub first_behind : (cells : List (List ℕ)) (tag : ℕ) (start new : List ℕ) → 0 < length cells → field_text default_writer (get_or cells 0 []) ≡ tag ∷ [] → new ≡ start ++ (tag ∷ 44 ∷ [])
    → new ≡ start ++ (row_body default_writer (take 1 cells) ++ 44 ∷ [])
first_behind cells tag start new some is grown =
    grown ∙ ap (λ (t : List ℕ). start ++ (t ++ 44 ∷ [])) (sym is) ∙ ap (λ (t : List ℕ). start ++ (t ++ 44 ∷ [])) (sym (first_body cells some))

byte_behind : (start body text : List ℕ) (end : ℕ) → (start ++ (body ++ 44 ∷ [])) ++ (text ++ end ∷ []) ≡ start ++ ((body ++ (44 ∷ text)) ++ end ∷ [])
byte_behind start body text end = simp (append_assoc) refl

-- one cell more, and a byte behind it
pub next_behind : (cells : List (List ℕ)) (i end : ℕ) (start old new cell : List ℕ) → 0 < i → i < length cells → cell ≡ get_or cells i []
    → old ≡ start ++ (row_body default_writer (take i cells) ++ 44 ∷ []) → new ≡ old ++ (field_text default_writer cell ++ end ∷ [])
    → new ≡ start ++ (row_body default_writer (take (i + 1) cells) ++ end ∷ [])
next_behind cells i end start old new cell some within is before grown =
    grown
    ∙ ap (λ (c : List ℕ). old ++ (field_text default_writer c ++ end ∷ [])) is
    ∙ ap (λ (t : List ℕ). t ++ (field_text default_writer (get_or cells i []) ++ end ∷ [])) before
    ∙ byte_behind start (row_body default_writer (take i cells)) (field_text default_writer (get_or cells i [])) end
    ∙ ap (λ (t : List ℕ). start ++ (t ++ end ∷ [])) (sym (next_body cells i some within))

-- the last cell, and a line feed behind it
pub last_behind : (cells : List (List ℕ)) (i : ℕ) (start old new cell : List ℕ) → 0 < i → length cells ≡ i + 1 → cell ≡ get_or cells i []
    → old ≡ start ++ (row_body default_writer (take i cells) ++ 44 ∷ []) → new ≡ old ++ (field_text default_writer cell ++ 10 ∷ []) → new ≡ start ++ row_text default_writer cells
last_behind cells i start old new cell some count is before grown =
    next_behind cells i 10 start old new cell some (omega (arith, count)) is before grown
    ∙ ap (λ (cs : List (List ℕ)). start ++ (row_body default_writer cs ++ 10 ∷ [])) (take_all (i + 1) cells (omega (arith, count)))
    ∙ ap (λ (t : List ℕ). start ++ t) (sym (text_of_more cells (omega (arith, some, count))))

-- a line whose last comma gives way to a line feed
pub last_given_way : (line old kept : List ℕ) (n : ℕ) → old ≡ line ++ 44 ∷ [] → n ≡ length old → kept ≡ take (n - 1) old → kept ++ 10 ∷ [] ≡ line ++ 10 ∷ []
last_given_way line old kept n is count cut =
    let long : length old ≡ length line + 1 = ap (λ (t : List ℕ). length t) is ∙ length-append line (44 ∷ []) in
    let less : n - 1 ≡ length line = omega (arith, long, count) in
    ap (λ (t : List ℕ). t ++ 10 ∷ []) (cut ∙ ap (λ (m : ℕ). take m old) less ∙ ap (take (length line)) is ∙ take-append_seam line (44 ∷ []))
