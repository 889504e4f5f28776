-- Records that were written are read back, whatever stands in front of them and behind.
use Rattle.std.proofs.Common.{◌≡◌, ◌∙◌, ℕ, ◌+◌, ◌-◌, ◌^◌, ◌<◌, ◌≤◌, ◌&&◌, nat_le, eqb, List, [], ◌∷◌, ◌++◌, take, drop, length, slice_range, true, cond, Option, Some, None, option_and_then, refl, sym, ap, arith, append_assoc, length-append}
use Rattle.std.specs.Fmt.{decimal}
use Rattle.std.proofs.lemmas.List.{take_at, drop_at}
use Rattle.std.proofs.lemmas.Slice.{between_is}
use Rattle.std.proofs.lemmas.Bool.{and_from, le-leb, eq-eqb}
use Rattle.wsm_sums.specs.Crc.{sum_of}
use Rattle.wsm_journal.specs.Text.{Entry, IsRecord, head_text, entry_head, entry_sum, mark_text, record_text, follows}
use Rattle.wsm_journal.specs.Reading.{Mark, Whole, mark_with, mark_of, entry_of, rows_of, is_sum, whole_with, whole_at, mark_from, whole_if, next_whole}
use Rattle.wsm_journal.proofs.Decimals.{decimal_read}
use Rattle.wsm_journal.proofs.Ends.{mark_found, position_read}

-- the line behind a record's lines, from behind each of its commas
abbrev from_sum : Entry → List ℕ → List ℕ
from_sum e y = decimal (entry_sum e) ++ (44 ∷ (e.position ++ (10 ∷ y)))

abbrev from_lines : Entry → List ℕ → List ℕ
from_lines e y = decimal e.lines ++ (44 ∷ from_sum e y)

abbrev from_bytes : Entry → List ℕ → List ℕ
from_bytes e y = decimal (length e.rows) ++ (44 ∷ from_lines e y)

abbrev from_number : Entry → List ℕ → List ℕ
from_number e y = decimal e.number ++ (44 ∷ from_bytes e y)

-- the whole of it
abbrev from_mark : Entry → List ℕ → List ℕ
from_mark e y = 97 ∷ 116 ∷ 44 ∷ from_number e y

pub joined_head : (a b c y : List ℕ) → (a ++ (44 ∷ (b ++ (44 ∷ (c ++ (44 ∷ [])))))) ++ y ≡ a ++ (44 ∷ (b ++ (44 ∷ (c ++ (44 ∷ y)))))
joined_head a b c y = simp append_assoc refl

head_first : (e : Entry) (y : List ℕ) → entry_head e ++ from_sum e y ≡ from_mark e y
unfolding entry_head head_text
head_first e y = ap (λ t. 97 ∷ 116 ∷ 44 ∷ t) (joined_head (decimal e.number) (decimal (length e.rows)) (decimal e.lines) (from_sum e y))

joined_mark : (a b c y : List ℕ) → (a ++ (b ++ (44 ∷ (c ++ (10 ∷ []))))) ++ y ≡ a ++ (b ++ (44 ∷ (c ++ (10 ∷ y))))
joined_mark a b c y = simp append_assoc refl

mark_text-is : (e : Entry) (y : List ℕ) → mark_text e ++ y ≡ from_mark e y
unfolding mark_text
mark_text-is e y = joined_mark (entry_head e) (decimal (entry_sum e)) e.position y ∙ head_first e y

-- what the line is read as
abbrev mark_seen : Entry → List ℕ → Mark
mark_seen e y = mark_with (from_mark e y) e.number (length e.rows) (e.lines, from_sum e y) (entry_sum e, e.position ++ (10 ∷ y)) (e.position, y)

mark_read : (e : Entry) (y : List ℕ) → IsRecord e → entry_sum e < 2 ^ 64 → mark_of (from_mark e y) ≡ Some (mark_seen e y)
unfolding mark_of
mark_read e y good sum =
    let number = decimal_read e.number (from_bytes e y) good.number in
    let bytes = decimal_read (length e.rows) (from_lines e y) good.size in
    let lines = decimal_read e.lines (from_sum e y) good.lines in
    let of_sum = decimal_read (entry_sum e) (e.position ++ (10 ∷ y)) sum in
    let position = position_read e.position y good.position in
    rw (number, bytes, lines, of_sum, position) refl

-- the parts of what was read
head_seen : (e : Entry) (y : List ℕ) → (mark_seen e y).head ≡ entry_head e
head_seen e y =
    let text = from_mark e y in
    let left = from_sum e y in
    let long : length text ≡ length (entry_head e) + length left = sym (ap length (head_first e y)) ∙ length-append (entry_head e) left in
    let size : length text - length left ≡ length (entry_head e) = omega arith in
    ap (λ n. take n text) size
    ∙ ap (λ t. take (length (entry_head e)) t) (sym (head_first e y))
    ∙ take_at (entry_head e) left (length (entry_head e)) refl

size_seen : (e : Entry) (y : List ℕ) → (mark_seen e y).size ≡ length (mark_text e)
size_seen e y =
    let text = from_mark e y in
    let long : length text ≡ length (mark_text e) + length y = sym (ap length (mark_text-is e y)) ∙ length-append (mark_text e) y in
    omega arith

-- the bytes in front of a place, among others
range_at : (before rows y : List ℕ) (at : ℕ) → at ≡ length before + length rows → slice_range (before ++ (rows ++ y)) (at - length rows) at ≡ rows
range_at before rows y at is =
    let start : at - length rows ≡ length before = omega arith in
    let whole : length (before ++ rows) ≡ at = length-append before rows ∙ sym is in
    between_is (before ++ (rows ++ y)) (at - length rows) at
    ∙ ap (λ t. drop (at - length rows) (take at t)) (sym (append_assoc before rows y))
    ∙ ap (λ t. drop (at - length rows) t) (take_at (before ++ rows) y at whole)
    ∙ ap (λ n. drop n (before ++ rows)) start
    ∙ drop_at before rows (length before) refl

abbrev whole_of : Entry → ℕ → Whole
whole_of e end = record { entry = e; end = end }

-- with the line's parts as they were written, the record is whole
with_parts : (text : List ℕ) (at : ℕ) (e : Entry) (y : List ℕ) → length e.rows ≤ at → rows_of text at (mark_seen e y) ≡ e.rows
    → whole_with text at (mark_seen e y) ≡ Some (whole_of e (at + length (mark_text e)))
unfolding entry_sum
with_parts text at e y inside rows =
    let m = mark_seen e y in
    let same : entry_sum e ≡ sum_of (rows_of text at m ++ (m.head ++ e.position)) =
    ap (λ t. sum_of (e.rows ++ (t ++ e.position))) (sym (head_seen e y)) ∙ ap (λ t. sum_of (t ++ (m.head ++ e.position))) (sym rows) in
    let fits : (nat_le (length e.rows) at && is_sum (rows_of text at m) m) ≡ true = and_from _ _ (le-leb _ _ inside) (eq-eqb _ _ same) in
    ap (λ b. cond b (Some (whole_of (entry_of (rows_of text at m) m) (at + m.size))) None) fits
    ∙ ap (λ t. Some (whole_of (entry_of t m) (at + m.size))) rows
    ∙ ap (λ n. Some (whole_of e (at + n))) (size_seen e y)

pub whole_read : (before : List ℕ) (e : Entry) (y : List ℕ) (at : ℕ) → IsRecord e → entry_sum e < 2 ^ 64 → at ≡ length before + length e.rows
    → whole_at (before ++ (e.rows ++ from_mark e y)) at ≡ Some (whole_of e (at + length (mark_text e)))
unfolding whole_at
whole_read before e y at good sum is =
    let text : List ℕ = before ++ (e.rows ++ from_mark e y) in
    let long : length (before ++ e.rows) ≡ at = length-append before e.rows ∙ sym is in
    let line : drop at text ≡ from_mark e y = ap (λ t. drop at t) (sym (append_assoc before e.rows (from_mark e y))) ∙ drop_at (before ++ e.rows) (from_mark e y) at long in
    ap (λ t. option_and_then (whole_with text at) (mark_of t)) line
    ∙ ap (λ o. option_and_then (whole_with text at) o) (mark_read e y good sum)
    ∙ with_parts text at e y (omega arith) (range_at before e.rows (from_mark e y) at is)

pub record_text-parts : (e : Entry) (y : List ℕ) → record_text e ++ y ≡ e.rows ++ (mark_text e ++ y)
unfolding record_text
record_text-parts e y = append_assoc e.rows (mark_text e) y

pub record_text-is : (e : Entry) (y : List ℕ) → record_text e ++ y ≡ e.rows ++ from_mark e y
unfolding record_text
record_text-is e y = append_assoc e.rows (mark_text e) y ∙ ap (λ t. e.rows ++ t) (mark_text-is e y)

pub length-record_text : (e : Entry) → length (record_text e) ≡ length e.rows + length (mark_text e)
unfolding record_text
length-record_text e = length-append e.rows (mark_text e)

pub mark_text-some : (e : Entry) → 0 < length (mark_text e)
mark_text-some e =
    let size = size_seen e [] in
    let more : length (from_mark e []) ≡ 3 + length (from_number e []) = omega arith in
    omega arith

-- a record that was written is the next one
pub next_read : (last : Option ℕ) (e : Entry) (y : List ℕ) → IsRecord e → entry_sum e < 2 ^ 64 → follows last e.number ≡ true
    → next_whole last (record_text e ++ y) ≡ Some (whole_of e (length (record_text e)))
unfolding next_whole
next_read last e y good sum after =
    let text : List ℕ = e.rows ++ from_mark e y in
    let at : ℕ = length e.rows in
    let found : mark_from 0 true text ≡ Some at = mark_found 0 true e.rows (from_number e y) good.rows ∙ ap Some (omega arith) in
    let whole : whole_at text at ≡ Some (whole_of e (at + length (mark_text e))) = whole_read [] e y at good sum (omega arith) in
    let fits : (eqb at at && follows last e.number) ≡ true = and_from _ _ (eq-eqb at at refl) after in
    ap (λ (t : List ℕ). option_and_then (λ (i : ℕ). option_and_then (whole_if last i) (whole_at t i)) (mark_from 0 true t)) (record_text-is e y)
    ∙ ap (λ (o : Option ℕ). option_and_then (λ (i : ℕ). option_and_then (whole_if last i) (whole_at text i)) o) found
    ∙ ap (λ o. option_and_then (whole_if last at) o) whole
    ∙ ap (λ b. cond b (Some (whole_of e (at + length (mark_text e)))) None) fits
    ∙ ap (λ n. Some (whole_of e n)) (sym (length-record_text e))
