-- What a source writes is taken.
use Rattle.std.proofs.Common.{◌≡◌, ◌≤◌, ◌<◌, ◌∙◌, ◌+◌, ◌==◌, ◌^◌, ℕ, suc, zero, List, [], ◌∷◌, ◌++◌, None, Some, true, false, ap, append-nil, append_assoc, arith, length, length-append, map, refl, subst, sym, nat_le}
use Rattle.std.proofs.lemmas.Bool.Decides.{nat_tests}
use Rattle.wsm_journal.specs.Text.{is_position}
use Rattle.wsm_journal.proofs.Decimals.{decimal_read}
use Rattle.wsm_fed.specs.Fed.{Breaks, Came, Chunk, Goes, Stand, Step, Takes, at_step, came_by, came_from, chunk_with, stand, step, with_chunk, with_line}
use Rattle.wsm_fed.specs.Written.{ArePieces, IsFirst, Piece, at_row, chunks_of, line_row, text_of, written}

-- ---- a beginning

by_steps : (t : Step) (f g : Stand → Came) → ((next : Stand) → IsFirst (f next) (g next)) → IsFirst (came_by t f) (came_by t g)
by_steps (Goes next) f g first = first next
by_steps (Takes chunk next) f g first = let p = first next in (p.0, ap (λ (chunks : List Chunk). chunk ∷ chunks) p.1)
by_steps (Breaks why) f g first = ([], refl)

pub first_came : (s : Stand) (first more : List (List ℕ)) → IsFirst (came_from s first) (came_from s (first ++ more))
unfolding came_from
first_came s [] more = ((came_from s more).chunks, refl)
first_came s (line ∷ lines) more = by_steps (step s line) (λ next. came_from next lines) (λ next. came_from next (lines ++ more)) (λ next. first_came next lines more)

-- ---- pieces

room : (n : ℕ) → n ≤ 16777216 → nat_le n 16777216 ≡ true
room n within = grind (arith, nat_tests)

later : (n : ℕ) → (suc n == 0) ≡ false
later n = grind (arith, nat_tests)

line_goes : (heard count : ℕ) (position text line : List ℕ) → length text ≤ 16777216 → step (stand (suc heard) position text count) (line_row line) ≡ Goes (with_line (stand (suc heard) position text count) line)
line_goes heard count position text line within = rw (later heard, room (length text) within) refl

pub lines_came : (heard count : ℕ) (position text : List ℕ) (lines rest : List (List ℕ)) → length (text ++ text_of lines) ≤ 16777216
    → came_from (stand (suc heard) position text count) (map line_row lines ++ rest) ≡ came_from (stand (suc heard + length lines) position (text ++ text_of lines) (count + length lines)) rest
unfolding came_from
lines_came heard count position text [] rest within =
    let none : suc heard ≡ suc heard + 0 = omega arith in
    let same : count ≡ count + 0 = omega arith in
    ap (λ (n : ℕ). came_from (stand n position text count) rest) none
    ∙ ap (λ (n : ℕ). came_from (stand (suc heard + 0) position text n) rest) same
    ∙ ap (λ (xs : List ℕ). came_from (stand (suc heard + 0) position xs (count + 0)) rest) (sym (append-nil text))
lines_came heard count position text (line ∷ lines) rest within =
    let grown = text ++ (line ++ 10 ∷ []) in
    let whole : grown ++ text_of lines ≡ text ++ text_of (line ∷ lines) = append_assoc text (line ++ 10 ∷ []) (text_of lines) ∙ ap (λ (xs : List ℕ). text ++ xs) (append_assoc line (10 ∷ []) (text_of lines)) in
    let long : length text ≤ 16777216 = omega (arith, within, length-append text (text_of (line ∷ lines))) in
    let one : suc heard + 1 ≡ suc (suc heard) = omega arith in
    let heards : suc (suc heard) + length lines ≡ suc heard + length (line ∷ lines) = omega arith in
    let counts : (count + 1) + length lines ≡ count + length (line ∷ lines) = omega arith in
    ap (λ (t : Step). came_by t (λ next. came_from next (map line_row lines ++ rest))) (line_goes heard count position text line long)
    ∙ ap (λ (n : ℕ). came_from (stand n position grown (count + 1)) (map line_row lines ++ rest)) one
    ∙ lines_came (suc heard) (count + 1) position grown lines rest (subst (λ (xs : List ℕ). length xs ≤ 16777216) (sym whole) within)
    ∙ ap (λ (n : ℕ). came_from (stand n position (grown ++ text_of lines) ((count + 1) + length lines)) rest) heards
    ∙ ap (λ (n : ℕ). came_from (stand (suc heard + length (line ∷ lines)) position (grown ++ text_of lines) n) rest) counts
    ∙ ap (λ (xs : List ℕ). came_from (stand (suc heard + length (line ∷ lines)) position xs (count + length (line ∷ lines))) rest) whole

at_takes : (heard count : ℕ) (before text position : List ℕ) → 0 < count → count < 2 ^ 64 → is_position position ≡ true
    → step (stand (suc heard) before text count) (at_row count position) ≡ Takes (chunk_with text position) (stand (suc heard + 1) position [] 0)
at_takes heard count before text position some fits is =
    let read = decimal_read count position fits in
    let same : (count == count) ≡ true = grind (arith, nat_tests) in
    let not_none : (count == 0) ≡ false = grind (arith, nat_tests) in
    let s = stand (suc heard) before text count in
    let found : at_step s (Some (count, position)) ≡ Takes (chunk_with text position) (stand (suc heard + 1) position [] 0) = rw (same, is, not_none) refl in
    rw (later heard) (ap (at_step s) read ∙ found)

pub pieces_came : (heard : ℕ) (position : List ℕ) (pieces : List Piece) → ArePieces pieces → came_from (stand (suc heard) position [] 0) (written pieces) ≡ record { chunks = chunks_of pieces; fault = None }
unfolding came_from
pieces_came heard position [] are = refl
pieces_came heard position (p ∷ ps) are =
    let n = length p.lines in
    let last = at_row n p.position in
    let one : suc (heard + n) + 1 ≡ suc (suc (heard + n)) = omega arith in
    let chunk = chunk_with (text_of p.lines) p.position in
    let moved : suc heard + n ≡ suc (heard + n) = omega arith in
    let counted : 0 + n ≡ n = omega arith in
    lines_came heard 0 position [] p.lines (last ∷ written ps) are.0.room
    ∙ ap (λ (k : ℕ). came_from (stand k position (text_of p.lines) (0 + n)) (last ∷ written ps)) moved
    ∙ ap (λ (k : ℕ). came_from (stand (suc (heard + n)) position (text_of p.lines) k) (last ∷ written ps)) counted
    ∙ ap (λ (t : Step). came_by t (λ next. came_from next (written ps))) (at_takes (heard + n) n position (text_of p.lines) p.position are.0.some are.0.count are.0.position)
    ∙ ap (λ (k : ℕ). with_chunk chunk (came_from (stand k p.position [] 0) (written ps))) one
    ∙ ap (with_chunk chunk) (pieces_came (suc (heard + n)) p.position ps are.1)

pub written_came : (heard : ℕ) (position : List ℕ) (pieces : List Piece) → 0 < heard → ArePieces pieces → came_from (stand heard position [] 0) (written pieces) ≡ record { chunks = chunks_of pieces; fault = None }
written_came zero position pieces some are = absurd (omega (arith, some))
written_came (suc heard) position pieces some are = pieces_came heard position pieces are
