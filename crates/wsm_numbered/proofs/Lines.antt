-- Lines of a text, one behind another.
use Rattle.std.proofs.Common.{◌≡◌, ◌∙◌, ℕ, zero, suc, ◌+◌, ◌-◌, ◌<◌, ◌==◌, List, [], ◌∷◌, ◌++◌, take, drop, length, Bool, true, false, cond, Some, None, refl, sym, ap, arith, add-zero, append_assoc}
use Rattle.std.proofs.lemmas.List.{take_all, drop_all}
use Rattle.memchr.specs.Find.{IsFirstByte, is_byte}
use Rattle.wsm_sums.specs.Crc.{ones, rest_after, sum_behind}
use Rattle.wsm_sums.proofs.Steps.{xor_back}
use Rattle.wsm_sums.proofs.Sums.{sum_behind-append}
use Rattle.wsm_numbered.specs.Numbered.{lines_in, numbered, numbered_line, sum_over, with_front}

-- ---- where a line ends

pub line_first : (text : List ℕ) (k : ℕ) → IsFirstByte (is_byte 10) text (Some k) → lines_in text ≡ take (suc k) text ∷ lines_in (drop (suc k) text)
line_first [] k first = absurd (omega (arith, first.0.high))
line_first (byte ∷ text) zero first = ap (λ b. cond b ((byte ∷ []) ∷ lines_in text) (with_front byte (lines_in text))) first.1
line_first (byte ∷ text) (suc k) first =
    by_byte (byte == 10) refl
    (line_first text k (record { low = omega arith; high = omega (arith, first.0.high); before = λ j low small here. first.0.before (suc j) (omega arith) (omega arith) here }, first.1))
  where
    by_byte : (t : Bool) → (byte == 10) ≡ t → lines_in text ≡ take (suc k) text ∷ lines_in (drop (suc k) text)
        → cond t ((byte ∷ []) ∷ lines_in text) (with_front byte (lines_in text)) ≡ (byte ∷ take (suc k) text) ∷ lines_in (drop (suc k) text)
    by_byte true is behind = absurd (first.0.before 0 (omega arith) (omega arith) is)
    by_byte false is behind = ap (λ ls. with_front byte ls) behind

line_none : (byte : ℕ) (text : List ℕ) → IsFirstByte (is_byte 10) (byte ∷ text) None → lines_in (byte ∷ text) ≡ (byte ∷ text) ∷ []
line_none byte [] none = by_byte (byte == 10) refl
  where
    by_byte : (t : Bool) → (byte == 10) ≡ t → cond t ((byte ∷ []) ∷ []) ((byte ∷ []) ∷ []) ≡ (byte ∷ []) ∷ []
    by_byte true is = refl
    by_byte false is = refl
line_none byte (next ∷ text) none = by_byte (byte == 10) refl (line_none next text (λ k low high here. none (suc k) (omega arith) (omega arith) here))
  where
    by_byte : (t : Bool) → (byte == 10) ≡ t → lines_in (next ∷ text) ≡ (next ∷ text) ∷ []
        → cond t ((byte ∷ []) ∷ lines_in (next ∷ text)) (with_front byte (lines_in (next ∷ text))) ≡ (byte ∷ next ∷ text) ∷ []
    by_byte true is behind = absurd (none 0 (omega arith) (omega arith) is)
    by_byte false is behind = ap (λ ls. with_front byte ls) behind

pub line_ends : (text : List ℕ) (k : ℕ) → IsFirstByte (is_byte 10) text (Some k) → lines_in text ≡ take (k + 1) text ∷ lines_in (drop (k + 1) text)
line_ends text k first =
    let one : suc k ≡ k + 1 = omega arith in
    line_first text k first ∙ ap (λ n. take n text ∷ lines_in (drop n text)) one

pub none_ends : (text : List ℕ) → 0 < length text → IsFirstByte (is_byte 10) text None → lines_in text ≡ take (length text) text ∷ lines_in (drop (length text) text)
none_ends [] some none = absurd (omega arith)
none_ends (byte ∷ text) some none =
    let all : List ℕ = byte ∷ text in
    line_none byte text none ∙ ap (λ t. t ∷ []) (sym (take_all (length all) all (omega arith))) ∙ ap (λ t. take (length all) all ∷ lines_in t) (sym (drop_all (length all) all (omega arith)))

-- ---- lines behind others

pub numbered_append : (count sum : ℕ) (first second : List (List ℕ)) → numbered count sum (first ++ second) ≡ numbered count sum first ++ numbered (count + length first) (sum_over sum first) second
numbered_append count sum [] second = ap (λ n. numbered n sum second) (sym (add-zero count))
numbered_append count sum (line ∷ first) second =
    let here = numbered_line (count + 1) (sum_behind sum line) line in
    let more : count + 1 + length first ≡ count + length (line ∷ first) = omega arith in
    ap (λ t. here ++ t) (numbered_append (count + 1) (sum_behind sum line) first second ∙ ap (λ n. numbered (count + 1) (sum_behind sum line) first ++ numbered n (sum_over (sum_behind sum line) first) second) more)
    ∙ sym (append_assoc here (numbered (count + 1) (sum_behind sum line) first) (numbered (count + length (line ∷ first)) (sum_over (sum_behind sum line) first) second))

pub sum_over-append : (sum : ℕ) (first second : List (List ℕ)) → sum_over sum (first ++ second) ≡ sum_over (sum_over sum first) second
sum_over-append sum [] second = refl
sum_over-append sum (line ∷ first) second = sum_over-append (sum_behind sum line) first second

no_byte : (sum : ℕ) → sum ≡ sum_behind sum []
unfolding sum_behind rest_after
no_byte sum = sym (xor_back sum ones)

front_sum : (sum byte : ℕ) (lines : List (List ℕ)) → sum_over sum (with_front byte lines) ≡ sum_over (sum_behind sum (byte ∷ [])) lines
front_sum sum byte [] = refl
front_sum sum byte (line ∷ lines) = ap (λ n. sum_over n lines) (sum_behind-append sum (byte ∷ []) line)

pub sum_of_text : (sum : ℕ) (text : List ℕ) → sum_over sum (lines_in text) ≡ sum_behind sum text
sum_of_text sum [] = no_byte sum
sum_of_text sum (byte ∷ text) = by_byte (byte == 10) (sum_of_text (sum_behind sum (byte ∷ [])) text) ∙ sym (sum_behind-append sum (byte ∷ []) text)
  where
    by_byte : (t : Bool) → sum_over (sum_behind sum (byte ∷ [])) (lines_in text) ≡ sum_behind (sum_behind sum (byte ∷ [])) text
        → sum_over sum (cond t ((byte ∷ []) ∷ lines_in text) (with_front byte (lines_in text))) ≡ sum_behind (sum_behind sum (byte ∷ [])) text
    by_byte true behind = behind
    by_byte false behind = front_sum sum byte (lines_in text) ∙ behind

-- one line more of a text
pub text_more : (before : List ℕ) (count sum : ℕ) (rest all : List ℕ) (end : ℕ) → before ++ numbered count sum (lines_in rest) ≡ all → lines_in rest ≡ take end rest ∷ lines_in (drop end rest)
    → (before ++ numbered_line (count + 1) (sum_behind sum (take end rest)) (take end rest)) ++ numbered (count + 1) (sum_behind sum (take end rest)) (lines_in (drop end rest)) ≡ all
text_more before count sum rest all end so_far is =
    append_assoc before (numbered_line (count + 1) (sum_behind sum (take end rest)) (take end rest)) (numbered (count + 1) (sum_behind sum (take end rest)) (lines_in (drop end rest)))
    ∙ ap (λ ls. before ++ numbered count sum ls) (sym is) ∙ so_far
