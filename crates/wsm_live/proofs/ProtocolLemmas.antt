-- A run over lines meets what the protocol asks, and a journal's records are the protocol's.
use Rattle.std.proofs.Common.{◌≡◌, ◌∙◌, ◌+◌, ◌≤◌, ◌&&◌, ℕ, List, [], ◌∷◌, ◌++◌, drop, length, true, nat_eq, eq-eqb, refl, sym, ap, ap₂, arith, append_assoc, append-nil}
use Rattle.std.proofs.lemmas.Bool.{and_parts, eqb-true, false≢true}
use Rattle.std.proofs.lemmas.List.{drop_all, map-append, take_all}
use Rattle.std.proofs.Math.ListN.{length-append}
use Rattle.std.proofs.Math.Seq.{drop-append_seam}
use Rattle.wsm_sums.specs.Crc.{sum_behind}
use Rattle.wsm_numbered.specs.Numbered.{numbered, numbered_line}
use Rattle.wsm_journal.specs.Text.{Entry}
use Rattle.wsm_protocol.specs.Runs.{IsRun}
use Rattle.wsm_protocol.specs.World as world
use Rattle.wsm_protocol.specs.World.{Journal, all_rows, cut_front, lines_of_chunk, with_chunk}
use Rattle.wsm_live.specs.Kept.{read_lines}
use Rattle.wsm_live.specs.Told.{Turn, handed_out, told_for, with_lines}
use Rattle.wsm_live.specs.Live.{chunk_lines, lines_behind}
use Rattle.wsm_live.specs.Protocol.{are_lines, chunks_of, is_text, items_text, journal_by, run_by}
use Rattle.wsm_live.proofs.ToldLemmas.{handed-append, told-append}
use Rattle.wsm_live.proofs.RunLemmas.{chunks_more}

-- ---- equal lines

same_text : (xs ys : List ℕ) → is_text xs ys ≡ true → xs ≡ ys
same_text [] [] is = refl
same_text [] (y ∷ ys) is = absurd (false≢true is)
same_text (x ∷ xs) [] is = absurd (false≢true is)
same_text (x ∷ xs) (y ∷ ys) is =
    let both = and_parts (nat_eq x y) (is_text xs ys) is in
    ap₂ (λ (a : ℕ) (l : List ℕ). a ∷ l) (eqb-true x y both.0) (same_text xs ys both.1)

same_lines : (xs ys : List (List ℕ)) → are_lines xs ys ≡ true → xs ≡ ys
same_lines [] [] is = refl
same_lines [] (y ∷ ys) is = absurd (false≢true is)
same_lines (x ∷ xs) [] is = absurd (false≢true is)
same_lines (x ∷ xs) (y ∷ ys) is =
    let both = and_parts (is_text x y) (are_lines xs ys) is in
    ap₂ (λ (a : List ℕ) (l : List (List ℕ)). a ∷ l) (same_text x y both.0) (same_lines xs ys both.1)

text_is : (xs : List ℕ) → is_text xs xs ≡ true
text_is [] = refl
text_is (x ∷ xs) = ap (λ t. t && is_text xs xs) (eq-eqb x x refl) ∙ text_is xs

lines_are : (xs : List (List ℕ)) → are_lines xs xs ≡ true
lines_are [] = refl
lines_are (x ∷ xs) = ap (λ t. t && are_lines xs xs) (text_is x) ∙ lines_are xs

-- ---- a run

pub is_run : (turn : Turn) → IsRun (run_by turn)
is_run turn = record {
  none_told = refl;
  none_stands = refl;
  resumes = λ head rows more stands. told-append turn [] rows more
      ∙ ap (λ (ls : List (List ℕ)). told_for turn [] rows ++ told_for turn (with_lines [] ls) more) (sym (same_lines head rows stands));
  cuts = λ head rows more stands. ap (λ (ls : List (List ℕ)). are_lines (head ++ more) (ls ++ more)) (sym (same_lines head rows stands)) ∙ lines_are (head ++ more);
}

-- ---- journals

all_chunks : (longest : ℕ) (chunks : List Entry) → all_rows (chunks_of longest chunks) ≡ chunk_lines longest chunks
all_chunks longest [] = refl
all_chunks longest (chunk ∷ chunks) = ap (λ (ls : List (List ℕ)). read_lines longest chunk.rows ++ ls) (all_chunks longest chunks)

all_more : (chunks : List (List (List ℕ))) (rows : List (List ℕ)) → all_rows (chunks ++ rows ∷ []) ≡ all_rows chunks ++ rows
all_more [] rows = append-nil rows
all_more (chunk ∷ chunks) rows = ap (λ (ls : List (List ℕ)). chunk ++ ls) (all_more chunks rows) ∙ sym (append_assoc chunk (all_rows chunks) rows)

-- the lines behind a journal's head are those that a restart hands out
pub same_behind : (turn : Turn) (longest : ℕ) (front : List (List ℕ)) (es : List Entry) → world.lines_behind (run_by turn) (journal_by turn longest front es) ≡ told_for turn (with_lines [] front) (lines_behind longest es)
same_behind turn longest front [] = refl
same_behind turn longest front (head ∷ chunks) = ap (told_for turn (with_lines [] front)) (all_chunks longest chunks)

-- a journal with these chunks behind a head that stands for these lines
abbrev chunks_behind : Turn → List (List ℕ) → List (List (List ℕ)) → Journal
chunks_behind turn front chunks = record { head = front; rows = length front; lines = length (told_for turn [] front); chunks = chunks }

pub same_chunk : (turn : Turn) (longest : ℕ) (front : List (List ℕ)) (head : Entry) (chunks : List Entry) (more : Entry)
    → journal_by turn longest front (head ∷ (chunks ++ more ∷ [])) ≡ with_chunk (journal_by turn longest front (head ∷ chunks)) (read_lines longest more.rows)
same_chunk turn longest front head chunks more = ap (chunks_behind turn front) (map-append (λ (e : Entry). read_lines longest e.rows) chunks (more ∷ []))

-- those of a chunk more are those that are handed out for it
pub same_more : (turn : Turn) (longest : ℕ) (front : List (List ℕ)) (head : Entry) (chunks : List Entry) (rows : List (List ℕ))
    → lines_of_chunk (run_by turn) (journal_by turn longest front (head ∷ chunks)) rows ≡ told_for turn (with_lines (with_lines [] front) (chunk_lines longest chunks)) rows
same_more turn longest front head chunks rows =
    let cs : List (List (List ℕ)) = chunks_of longest chunks in
    let before : List (List ℕ) = with_lines [] front in
    let was : List (List ℕ) = told_for turn before (all_rows cs) in
    ap (λ (ls : List (List ℕ)). drop (length was) (told_for turn before ls)) (all_more cs rows)
    ∙ ap (λ (ls : List (List ℕ)). drop (length was) ls) (told-append turn before (all_rows cs) rows)
    ∙ drop-append_seam was (told_for turn (with_lines before (all_rows cs)) rows)
    ∙ ap (λ (ls : List (List ℕ)). told_for turn (with_lines before ls) rows) (all_chunks longest chunks)

-- a head alone that stands for all lines is what a cut of all chunks leaves
chunk_count : (longest : ℕ) (chunks : List Entry) → length (chunks_of longest chunks) ≡ length chunks
chunk_count longest [] = refl
chunk_count longest (chunk ∷ chunks) =
    let rest = chunk_count longest chunks in
    omega (arith, rest)

-- what is left where these chunks are cut, and those
abbrev cut_to : Turn → List (List ℕ) → List (List (List ℕ)) → List (List (List ℕ)) → Journal
cut_to turn front cut left = record {
  head = front ++ all_rows cut;
  rows = length front + length (all_rows cut);
  lines = length (told_for turn [] front) + length (told_for turn (with_lines [] front) (all_rows cut));
  chunks = left;
}

abbrev cut_all : List (List ℕ) → (rows lines : ℕ) → Journal
cut_all head rows lines = record { head = head; rows = rows; lines = lines; chunks = [] }

pub same_cut : (turn : Turn) (longest : ℕ) (front : List (List ℕ)) (head cut : Entry) (chunks : List Entry)
    → journal_by turn longest (front ++ chunk_lines longest chunks) (cut ∷ []) ≡ cut_front (run_by turn) (length chunks) (journal_by turn longest front (head ∷ chunks))
same_cut turn longest front head cut chunks =
    let cs : List (List (List ℕ)) = chunks_of longest chunks in
    let lines : List (List ℕ) = chunk_lines longest chunks in
    let enough : length cs ≤ length chunks = omega (arith, chunk_count longest chunks) in
    let more : List (List ℕ) = told_for turn (with_lines [] front) lines in
    let count : length (told_for turn [] (front ++ lines)) ≡ length (told_for turn [] front) + length more = ap length (told-append turn [] front lines) ∙ length-append (told_for turn [] front) more in
    ap (λ (n : ℕ). cut_all (front ++ lines) n (length (told_for turn [] (front ++ lines)))) (length-append front lines)
    ∙ ap (λ (n : ℕ). cut_all (front ++ lines) (length front + length lines) n) count
    ∙ ap (λ (ls : List (List ℕ)). cut_all (front ++ ls) (length front + length ls) (length (told_for turn [] front) + length (told_for turn (with_lines [] front) ls))) (sym (all_chunks longest chunks))
    ∙ ap (λ (l : List (List (List ℕ))). cut_to turn front cs l) (sym (drop_all (length chunks) cs enough))
    ∙ ap (λ (l : List (List (List ℕ))). cut_to turn front l (drop (length chunks) cs)) (sym (take_all (length chunks) cs enough))

-- items as bytes
pub same_items : (count sum : ℕ) (lines : List (List ℕ)) → items_text sum (world.numbered count lines) ≡ numbered count sum lines
same_items count sum [] = refl
same_items count sum (line ∷ lines) = ap (λ (l : List ℕ). numbered_line (count + 1) (sum_behind sum line) line ++ l) (same_items (count + 1) (sum_behind sum line) lines)

-- a restart hands out what was handed out before, and behind it what was handed out for the last record
pub restart_more : (turn : Turn) (before : List (List ℕ)) (longest : ℕ) (head : Entry) (chunks : List Entry) (more : Entry)
    → handed_out turn before (lines_behind longest (head ∷ (chunks ++ more ∷ [])))
    ≡ handed_out turn before (lines_behind longest (head ∷ chunks)) ++ handed_out turn (with_lines before (lines_behind longest (head ∷ chunks))) (read_lines longest more.rows)
restart_more turn before longest head chunks more =
    ap (handed_out turn before) (chunks_more longest chunks more) ∙ handed-append turn before (chunk_lines longest chunks) (read_lines longest more.rows)

pub restart_cut : (turn : Turn) (before : List (List ℕ)) (longest : ℕ) (head cut : Entry) (chunks : List Entry) (more : Entry)
    → handed_out turn before (lines_behind longest (head ∷ (chunks ++ more ∷ [])))
    ≡ handed_out turn before (lines_behind longest (head ∷ chunks)) ++ handed_out turn (with_lines before (lines_behind longest (head ∷ chunks))) (lines_behind longest (cut ∷ more ∷ []))
restart_cut turn before longest head cut chunks more =
    restart_more turn before longest head chunks more
    ∙ ap (λ (ls : List (List ℕ)). handed_out turn before (lines_behind longest (head ∷ chunks)) ++ handed_out turn (with_lines before (lines_behind longest (head ∷ chunks))) ls) (sym (append-nil (read_lines longest more.rows)))
