-- Rows of lines, one behind another.
use Rattle.std.proofs.Common.{◌≡◌, ◌∙◌, ◌<◌, ◌+◌, ◌==◌, ℕ, zero, suc, List, [], ◌∷◌, ◌++◌, take, drop, length, map, true, false, cond, Option, Some, None, MatchOption, inl, inr, refl, sym, ap, arith, append_assoc, append-nil}
use Rattle.std.proofs.lemmas.Bool.{cases_Bool}
use Rattle.memchr.specs.Find.{IsFirstByte, is_byte}
use Rattle.wsm_log.specs.LinesOf.{HasNoFeed}
use Rattle.wsm_follow.specs.Ended.{ended_from, ended_lines, kept_lines}
use Rattle.wsm_follow.proofs.EndedLemmas.{ended-plain}
use Rattle.wsm_journal.specs.Text.{are_rows, are_rows_from}
use Rattle.wsm_live.specs.Kept.{lines_of_rows, read_lines, rows_of}

-- ---- where a line ends

ended_part : (part text : List ℕ) (k : ℕ) → IsFirstByte (is_byte 10) text (Some k) → ended_from part text ≡ (part ++ take k text) ∷ ended_lines (drop (suc k) text)
ended_part part [] k first = absurd (omega (arith, first.0.high))
ended_part part (byte ∷ text) zero first = ap (λ b. cond b (part ∷ ended_lines text) (ended_from (part ++ byte ∷ []) text)) first.1 ∙ ap (λ (l : List ℕ). l ∷ ended_lines text) (sym (append-nil part))
ended_part part (byte ∷ text) (suc k) first =
    elim (cases_Bool (byte == 10)) [
      | inl feed ↦ absurd (first.0.before 0 (omega arith) (omega arith) feed)
      | inr other ↦ rw other (ended_part (part ++ byte ∷ []) text k (record { low = omega arith; high = omega (arith, first.0.high); before = λ j low small here. first.0.before (suc j) (omega arith) (omega arith) here }, first.1)
          ∙ ap (λ (l : List ℕ). l ∷ ended_lines (drop (suc k) text)) (append_assoc part (byte ∷ []) (take k text)))
    ]

none_part : (part text : List ℕ) → IsFirstByte (is_byte 10) text None → ended_from part text ≡ []
none_part part [] none = refl
none_part part (byte ∷ text) none =
    elim (cases_Bool (byte == 10)) [
      | inl feed ↦ absurd (none 0 (omega arith) (omega arith) feed)
      | inr other ↦ rw other (none_part (part ++ byte ∷ []) text (λ k low high here. none (suc k) (omega arith) (omega arith) here))
    ]

pub ended_first : (text : List ℕ) (k : ℕ) → IsFirstByte (is_byte 10) text (Some k) → ended_lines text ≡ take k text ∷ ended_lines (drop (k + 1) text)
ended_first text k first =
    let one : suc k ≡ k + 1 = omega arith in
    ended_part [] text k first ∙ ap (λ n. take k text ∷ ended_lines (drop n text)) one

pub ended_none : (text : List ℕ) → IsFirstByte (is_byte 10) text None → ended_lines text ≡ []
ended_none text none = none_part [] text none

-- ---- rows

-- none of these lines has a line feed
abbrev pub ArePlain : List (List ℕ) → Type 0
ArePlain [] = Unit {0}
ArePlain (line ∷ lines) = HasNoFeed line × ArePlain lines

plain-append : (part : List ℕ) (b : ℕ) → HasNoFeed part → (b == 10) ≡ false → HasNoFeed (part ++ b ∷ [])
plain-append [] b plain other = (other, tt)
plain-append (a ∷ part) b plain other = (plain.0, plain-append part b plain.1 other)

plain_from : (part text : List ℕ) → HasNoFeed part → ArePlain (ended_from part text)
plain_from part [] plain = tt
plain_from part (b ∷ bs) plain =
    elim (cases_Bool (b == 10)) [
      | inl feed ↦ rw feed (plain, plain_from [] bs tt)
      | inr other ↦ rw other (plain_from (part ++ b ∷ []) bs (plain-append part b plain other))
    ]

pub ended_plain : (text : List ℕ) → ArePlain (ended_lines text)
ended_plain text = plain_from [] text tt

-- the lines of rows are those that the rows were made of
plain_read : (lines : List (List ℕ)) → ArePlain lines → lines_of_rows (rows_of lines) ≡ lines
plain_read [] plain = refl
plain_read (line ∷ lines) plain =
    ap (map (drop 1)) (ended-plain [] (58 ∷ line) (10 ∷ rows_of lines) (refl, plain.0)) ∙ ap (λ (ls : List (List ℕ)). line ∷ ls) (plain_read lines plain.1)

pub rows_read : (text : List ℕ) → lines_of_rows (rows_of (ended_lines text)) ≡ ended_lines text
rows_read text = plain_read (ended_lines text) (ended_plain text)

pub kept_read : (longest : ℕ) (text : List ℕ) → read_lines longest (rows_of (ended_lines text)) ≡ kept_lines longest (ended_lines text)
kept_read longest text = ap (kept_lines longest) (rows_read text)

-- ---- rows are rows of a journal

row_are : (line rest : List ℕ) → HasNoFeed line → are_rows_from false (line ++ 10 ∷ rest) ≡ are_rows rest
row_are [] rest plain = refl
row_are (b ∷ bs) rest plain = ap (λ t. are_rows_from t (bs ++ 10 ∷ rest)) plain.0 ∙ row_are bs rest plain.1

plain_are : (lines : List (List ℕ)) → ArePlain lines → are_rows (rows_of lines) ≡ true
plain_are [] plain = refl
plain_are (line ∷ lines) plain = row_are line (rows_of lines) plain.0 ∙ plain_are lines plain.1

pub rows_are : (text : List ℕ) → are_rows (rows_of (ended_lines text)) ≡ true
rows_are text = plain_are (ended_lines text) (ended_plain text)

-- ---- parts of lines

-- where the first line ends, if it has ended
pub line_ended : (text : List ℕ) (found : Option ℕ) → IsFirstByte (is_byte 10) text found
    → MatchOption found (ended_lines text ≡ []) (λ end. (end < length text) × (ended_lines text ≡ take end text ∷ ended_lines (drop (end + 1) text)))
line_ended text None none = ended_none text none
line_ended text (Some end) first = (first.0.high, ended_first text end first)
