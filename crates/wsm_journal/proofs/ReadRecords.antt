-- Records that are read are ones that can be written.
use Rattle.std.proofs.Common.{◌≡◌, ◌∙◌, ℕ, zero, suc, ◌+◌, ◌-◌, ◌*◌, ◌/◌, ◌%◌, ◌^◌, ◌<◌, ◌≤◌, ◌==◌, ◌&&◌, not, nat_le, nat_lt, nat_eq, List, [], ◌∷◌, ◌++◌, take, drop, length, slice_range, Bool, true, false, cond, Option, Some, None, option_and_then, option_map, refl, sym, ap, arith, subst, length-take, append_assoc, length-append}
use Rattle.std.specs.Option.{option_map_or}
use Rattle.std.specs.Fmt.{decimal}
use Rattle.std.proofs.lemmas.Fmt.{decimal_digit, decimal_step}
use Rattle.std.proofs.lemmas.List.{take_at}
use Rattle.wsm_sums.specs.Crc.{sum_of}
use Rattle.wsm_journal.proofs.ReadLemmas.{length_between}
use Rattle.wsm_journal.proofs.Written.{joined_head}
use Rattle.std.proofs.lemmas.Bool.{and_parts, and_from, leb-true, ltb-true, eqb-true, le-leb}
use Rattle.wsm_journal.specs.Text.{Entry, IsRecord, AreRecords, are_rows, are_rows_from, entry_head, entry_sum, follows, head_text, has_no_line_feed, is_mark, is_position}
use Rattle.wsm_journal.specs.declared.reading.Behind.{Behind}
use Rattle.wsm_journal.specs.Reading.{Mark, Whole, in_front, entry_of, rows_of, whole_with, is_sum, is_digit, with_digit, number_from, number_of, line_end_from, position_of, mark_with, mark_of, whole_at, mark_from, whole_if, next_whole, with_whole, reading_with, read_from, behind_of}

and_then_some : {X Y : Type 0} (o : Option X) (g : X → Option Y) (y : Y) → option_and_then g o ≡ Some y → (x : X) × (o ≡ Some x) × (g x ≡ Some y)
and_then_some None g y is = absurd (cc is)
and_then_some (Some x) g y is = (x, refl, is)

map_some : {X Y : Type 0} (o : Option X) (g : X → Y) (y : Y) → option_map g o ≡ Some y → (x : X) × (o ≡ Some x) × (g x ≡ y)
map_some None g y is = absurd (cc is)
map_some (Some x) g y is = (x, refl, cc)

cond_some : {X : Type 0} (b : Bool) (x y : X) → cond b (Some x) None ≡ Some y → (b ≡ true) × (x ≡ y)
cond_some true x y is = (refl, cc)
cond_some false x y is = absurd (cc is)

then_some : {X : Type 0} (b : Bool) (o : Option X) (y : X) → cond b o None ≡ Some y → (b ≡ true) × (o ≡ Some y)
then_some true o y is = (refl, is)
then_some false o y is = absurd (cc is)

-- ---- numbers: what was read is what is written of them

abbrev IsWritten : List ℕ → ℕ × List ℕ → Type 0
IsWritten text p = (p.0 < 2 ^ 64) × (text ≡ decimal p.0 ++ (44 ∷ p.1))

digit_written : (value byte more : ℕ) → with_digit value byte ≡ Some more → (more < 2 ^ 64) × (decimal more ≡ decimal value ++ (byte ∷ []))
digit_written value byte more is =
    let parts = cond_some (is_digit byte && (nat_lt 0 value && nat_lt (value * 10 + (byte - 48)) (2 ^ 64))) (value * 10 + (byte - 48)) more is in
    let tests = and_parts (is_digit byte) (nat_lt 0 value && nat_lt (value * 10 + (byte - 48)) (2 ^ 64)) parts.0 in
    let low : 48 ≤ byte = leb-true 48 byte (and_parts (nat_le 48 byte) (nat_le byte 57) tests.0).0 in
    let high : byte ≤ 57 = leb-true byte 57 (and_parts (nat_le 48 byte) (nat_le byte 57) tests.0).1 in
    let some : 0 < value = ltb-true 0 value (and_parts (nat_lt 0 value) (nat_lt (value * 10 + (byte - 48)) (2 ^ 64)) tests.1).0 in
    let fits : value * 10 + (byte - 48) < 2 ^ 64 = ltb-true (value * 10 + (byte - 48)) (2 ^ 64) (and_parts (nat_lt 0 value) (nat_lt (value * 10 + (byte - 48)) (2 ^ 64)) tests.1).1 in
    let same : value * 10 + (byte - 48) ≡ more = parts.1 in
    let small : more < 2 ^ 64 = omega arith in
    let front : more / 10 ≡ value = omega arith in
    let last : 48 + more % 10 ≡ byte = omega arith in
    (small, decimal_step more (omega arith) small ∙ ap (λ n. decimal n ++ ((48 + more % 10) ∷ [])) front ∙ ap (λ b. decimal value ++ (b ∷ [])) last)

from_written : (value : ℕ) (text : List ℕ) (p : ℕ × List ℕ) → value < 2 ^ 64 → number_from value text ≡ Some p → (p.0 < 2 ^ 64) × (decimal value ++ text ≡ decimal p.0 ++ (44 ∷ p.1))
from_written value [] p fits is = absurd (cc is)
from_written value (byte ∷ text) p fits is = by_byte (byte == 44) refl is (λ more small. from_written more text p small)
  where
    by_byte : (t : Bool) → (byte == 44) ≡ t → cond t (Some (value, text)) (option_and_then (λ more. number_from more text) (with_digit value byte)) ≡ Some p
        → ((more : ℕ) → more < 2 ^ 64 → number_from more text ≡ Some p → (p.0 < 2 ^ 64) × (decimal more ++ text ≡ decimal p.0 ++ (44 ∷ p.1)))
        → (p.0 < 2 ^ 64) × (decimal value ++ (byte ∷ text) ≡ decimal p.0 ++ (44 ∷ p.1))
    by_byte true comma is rest =
        let same : (value, text) ≡ p = cc in
        let at : byte ≡ 44 = eqb-true byte 44 comma in
        subst (λ (q : ℕ × List ℕ). (q.0 < 2 ^ 64) × (decimal value ++ (byte ∷ text) ≡ decimal q.0 ++ (44 ∷ q.1))) same (fits, ap (λ b. decimal value ++ (b ∷ text)) at)
    by_byte false comma is rest =
        let parts = and_then_some (with_digit value byte) (λ more. number_from more text) p is in
        let digit = digit_written value byte parts.0 parts.1 in
        let behind = rest parts.0 digit.0 parts.2 in
        (behind.0, sym (append_assoc (decimal value) (byte ∷ []) text) ∙ ap (λ t. t ++ text) (sym digit.1) ∙ behind.1)

number_written : (text : List ℕ) (p : ℕ × List ℕ) → number_of text ≡ Some p → IsWritten text p
number_written [] p is = absurd (cc is)
number_written (byte ∷ text) p is =
    let parts = then_some (is_digit byte) (number_from (byte - 48) text) p is in
    let low : 48 ≤ byte = leb-true 48 byte (and_parts (nat_le 48 byte) (nat_le byte 57) parts.0).0 in
    let high : byte ≤ 57 = leb-true byte 57 (and_parts (nat_le 48 byte) (nat_le byte 57) parts.0).1 in
    let digit : 48 + (byte - 48) ≡ byte = omega arith in
    let behind = from_written (byte - 48) text p (omega arith) parts.1 in
    (behind.0, ap (λ b. b ∷ text) (sym digit) ∙ ap (λ t. t ++ text) (sym (decimal_digit (byte - 48) (omega arith))) ∙ behind.1)

-- ---- positions

front_has_none : (i n : ℕ) (text : List ℕ) → line_end_from i text ≡ Some (i + n) → has_no_line_feed (take n text) ≡ true
front_has_none i n [] is = absurd (cc is)
front_has_none i zero (byte ∷ text) is = refl
front_has_none i (suc n) (byte ∷ text) is = by_byte (byte == 10) refl is (λ behind. front_has_none (i + 1) n text behind)
  where
    by_byte : (t : Bool) → (byte == 10) ≡ t → cond t (Some i) (line_end_from (i + 1) text) ≡ Some (i + suc n)
        → (line_end_from (i + 1) text ≡ Some (i + 1 + n) → has_no_line_feed (take n text) ≡ true) → (not (byte == 10) && has_no_line_feed (take n text)) ≡ true
    by_byte true same is rest =
        let at : i ≡ i + suc n = cc in
        absurd (omega arith)
    by_byte false same is rest = and_from _ _ (ap not same) (rest (is ∙ ap Some (omega arith)))

position_is : (text : List ℕ) (p : List ℕ × List ℕ) → position_of text ≡ Some p → is_position p.0 ≡ true
position_is text p is =
    let found = and_then_some (line_end_from 0 text) (λ end. cond (nat_le end 1024) (Some (take end text, drop (end + 1) text)) None) p is in
    let end = found.0 in
    let parts = cond_some (nat_le end 1024) (take end text, drop (end + 1) text) p found.2 in
    let from_zero : end ≡ 0 + end = omega arith in
    let short : length (take end text) ≤ 1024 = omega (arith, length-take end text, leb-true end 1024 parts.0) in
    let one : is_position (take end text) ≡ true = and_from _ _ (le-leb _ _ short) (front_has_none 0 end text (found.1 ∙ ap Some from_zero)) in
    subst (λ q. is_position q.0 ≡ true) parts.1 one

-- ---- the last line of a record

pub record Fits (m : Mark) : Type 0 where
  pub number : m.number < 2 ^ 64
  pub lines : m.lines < 2 ^ 64
  pub sum : m.sum < 2 ^ 64
  pub position : is_position m.position ≡ true
  pub head : m.head ≡ head_text m.number m.bytes m.lines

mark_front : (text : List ℕ) → is_mark text ≡ true → text ≡ 97 ∷ 116 ∷ 44 ∷ drop 3 text
mark_front [] mark = absurd (cc mark)
mark_front (a ∷ []) mark = absurd (cc (and_parts (nat_eq 97 a) false mark).1)
mark_front (a ∷ b ∷ []) mark = absurd (cc (and_parts (nat_eq 116 b) false (and_parts (nat_eq 97 a) (nat_eq 116 b && false) mark).1).1)
mark_front (a ∷ b ∷ c ∷ text) mark =
    let one = and_parts _ _ mark in
    let two = and_parts _ _ one.1 in
    let three = and_parts _ _ two.1 in
    ap (λ n. n ∷ b ∷ c ∷ text) (sym (eqb-true 97 a one.0)) ∙ ap (λ n. 97 ∷ n ∷ c ∷ text) (sym (eqb-true 116 b two.0)) ∙ ap (λ n. 97 ∷ 116 ∷ n ∷ text) (sym (eqb-true 44 c three.0))

head_in_front : (text left : List ℕ) (number bytes lines : ℕ) → text ≡ head_text number bytes lines ++ left → in_front text left ≡ head_text number bytes lines
head_in_front text left number bytes lines is =
    let long : length text ≡ length (head_text number bytes lines) + length left = ap length is ∙ length-append (head_text number bytes lines) left in
    let size : length text - length left ≡ length (head_text number bytes lines) = omega arith in
    ap (λ n. take n text) size ∙ ap (λ t. take (length (head_text number bytes lines)) t) is ∙ take_at (head_text number bytes lines) left (length (head_text number bytes lines)) refl

head_read : (text a b c : List ℕ) (number bytes lines : ℕ) → text ≡ 97 ∷ 116 ∷ 44 ∷ a → a ≡ decimal number ++ (44 ∷ b) → b ≡ decimal bytes ++ (44 ∷ c) → (left : List ℕ) → c ≡ decimal lines ++ (44 ∷ left) → text ≡ head_text number bytes lines ++ left
unfolding head_text
head_read text a b c number bytes lines is0 is1 is2 left is3 =
    is0 ∙ ap (λ t. 97 ∷ 116 ∷ 44 ∷ t) (is1 ∙ ap (λ t. decimal number ++ (44 ∷ t)) (is2 ∙ ap (λ t. decimal bytes ++ (44 ∷ t)) is3) ∙ sym (joined_head (decimal number) (decimal bytes) (decimal lines) left))

mark_fits : (text : List ℕ) (m : Mark) → mark_of text ≡ Some m → Fits m
unfolding mark_of
mark_fits text m is =
    let marked = then_some _ _ _ is in
    let number = and_then_some (number_of (drop 3 text)) _ m marked.1 in
    let bytes = and_then_some (number_of number.0.1) _ m number.2 in
    let lines = and_then_some (number_of bytes.0.1) _ m bytes.2 in
    let of_sum = and_then_some (number_of lines.0.1) _ m lines.2 in
    let position = map_some (position_of of_sum.0.1) _ m of_sum.2 in
    let one = number_written (drop 3 text) number.0 number.1 in
    let two = number_written number.0.1 bytes.0 bytes.1 in
    let three = number_written bytes.0.1 lines.0 lines.1 in
    let four = number_written lines.0.1 of_sum.0 of_sum.1 in
    let front = head_read text (drop 3 text) number.0.1 bytes.0.1 number.0.0 bytes.0.0 lines.0.0 (mark_front text marked.0) one.1 two.1 lines.0.1 three.1 in
    let fits : Fits (mark_with text number.0.0 bytes.0.0 lines.0 of_sum.0 position.0) = record {
      number = one.0;
      lines = three.0;
      sum = four.0;
      position = position_is of_sum.0.1 position.0 position.1;
      head = head_in_front text lines.0.1 number.0.0 bytes.0.0 lines.0.0 front;
    } in
    subst Fits position.2 fits

-- its sum is that of the record
sum_of_entry : (text : List ℕ) (at : ℕ) (m : Mark) → Fits m → at ≤ length text → m.bytes ≤ at → is_sum (rows_of text at m) m ≡ true → entry_sum (entry_of (rows_of text at m) m) < 2 ^ 64
unfolding entry_sum entry_head
sum_of_entry text at m fits inside low is =
    let rows = rows_of text at m in
    let long : length rows ≡ m.bytes = length_between text (at - m.bytes) at m.bytes (omega arith) inside in
    let head : head_text m.number (length rows) m.lines ≡ m.head = ap (λ n. head_text m.number n m.lines) long ∙ sym fits.head in
    let same : m.sum ≡ sum_of (rows ++ (m.head ++ m.position)) = eqb-true m.sum (sum_of (rows ++ (m.head ++ m.position))) is in
    subst (λ n. n < 2 ^ 64) (same ∙ ap (λ h. sum_of (rows ++ (h ++ m.position))) (sym head)) fits.sum

pub record WholeParts (text : List ℕ) (at : ℕ) (f : Whole) : Type 0 where
  pub mark : Mark
  pub fits : Fits mark
  pub entry : entry_of (rows_of text at mark) mark ≡ f.entry
  pub sum : entry_sum f.entry < 2 ^ 64

whole_parts : (text : List ℕ) (at : ℕ) (f : Whole) → whole_at text at ≡ Some f → at ≤ length text → WholeParts text at f
unfolding whole_at
whole_parts text at f is inside =
    let line = and_then_some (mark_of (drop at text)) (whole_with text at) f is in
    let m = line.0 in
    let parts = cond_some (nat_le m.bytes at && is_sum (rows_of text at m) m) (record { entry = entry_of (rows_of text at m) m; end = at + m.size }) f line.2 in
    let tests = and_parts (nat_le m.bytes at) (is_sum (rows_of text at m) m) parts.0 in
    let fits = mark_fits (drop at text) m line.1 in
    let entry = ap (λ (w : Whole). w.entry) parts.1 in record {
      mark = m;
      fits = fits;
      entry = entry;
      sum = subst (λ (e : Entry). entry_sum e < 2 ^ 64) entry (sum_of_entry text at m fits inside (leb-true m.bytes at tests.0) tests.1);
    }

-- ---- rows

mark_low : (i : ℕ) (begins : Bool) (text : List ℕ) (k : ℕ) → mark_from i begins text ≡ Some k → i ≤ k
mark_low i begins [] k is = absurd (cc is)
mark_low i begins (byte ∷ text) k is = by_mark (begins && is_mark (byte ∷ text)) is (mark_low (i + 1) (byte == 10) text k)
  where
    by_mark : (t : Bool) → cond t (Some i) (mark_from (i + 1) (byte == 10) text) ≡ Some k → (mark_from (i + 1) (byte == 10) text ≡ Some k → i + 1 ≤ k) → i ≤ k
    by_mark true is rest = let at : i ≡ k = cc in omega arith
    by_mark false is rest = omega (arith, rest is)

front_is_mark : (n byte : ℕ) (text : List ℕ) → is_mark (byte ∷ take n text) ≡ true → is_mark (byte ∷ text) ≡ true
front_is_mark zero byte [] mark = mark
front_is_mark (suc n) byte [] mark = mark
front_is_mark zero byte (a ∷ text) mark = absurd (cc (and_parts (nat_eq 97 byte) false mark).1)
front_is_mark (suc zero) byte (a ∷ []) mark = mark
front_is_mark (suc (suc n)) byte (a ∷ []) mark = mark
front_is_mark (suc zero) byte (a ∷ b ∷ text) mark = absurd (cc (and_parts (nat_eq 116 a) false (and_parts (nat_eq 97 byte) (nat_eq 116 a && false) mark).1).1)
front_is_mark (suc (suc n)) byte (a ∷ b ∷ text) mark = mark

false_front : (n byte : ℕ) (text : List ℕ) (begins : Bool) → (begins && is_mark (byte ∷ text)) ≡ false → (begins && is_mark (byte ∷ take n text)) ≡ false
false_front n byte text false none = refl
false_front n byte text true none = by_front (is_mark (byte ∷ take n text)) refl
  where
    by_front : (t : Bool) → is_mark (byte ∷ take n text) ≡ t → is_mark (byte ∷ take n text) ≡ false
    by_front false is = is
    by_front true is = absurd (cc (front_is_mark n byte text is, none))

rows_before : (i n : ℕ) (begins : Bool) (text : List ℕ) → mark_from i begins text ≡ Some (i + n) → are_rows_from begins (take n text) ≡ true
rows_before i n begins [] is = absurd (cc is)
rows_before i zero begins (byte ∷ text) is = by_mark (begins && is_mark (byte ∷ text)) refl is
  where
    by_mark : (t : Bool) → (begins && is_mark (byte ∷ text)) ≡ t → cond t (Some i) (mark_from (i + 1) (byte == 10) text) ≡ Some (i + 0) → begins ≡ true
    by_mark true same is = (and_parts _ _ same).0
    by_mark false same is = let low = mark_low (i + 1) (byte == 10) text (i + 0) is in absurd (omega (arith, low))
rows_before i (suc n) begins (byte ∷ text) is = by_mark (begins && is_mark (byte ∷ text)) refl is (λ behind. rows_before (i + 1) n (byte == 10) text behind)
  where
    by_mark : (t : Bool) → (begins && is_mark (byte ∷ text)) ≡ t → cond t (Some i) (mark_from (i + 1) (byte == 10) text) ≡ Some (i + suc n)
        → (mark_from (i + 1) (byte == 10) text ≡ Some (i + 1 + n) → are_rows_from (byte == 10) (take n text) ≡ true)
        → (not (begins && is_mark (byte ∷ take n text)) && are_rows_from (byte == 10) (take n text)) ≡ true
    by_mark true same is rest = let at : i ≡ i + suc n = cc in absurd (omega arith)
    by_mark false same is rest = and_from _ _ (ap not (false_front n byte text begins same)) (rest (is ∙ ap Some (omega arith)))

-- all bytes in front of a place are those from its beginning on
all_in_front : (text : List ℕ) (at bytes : ℕ) → length (slice_range text (at - bytes) at) ≡ at → slice_range text (at - bytes) at ≡ take at text
all_in_front text at bytes long =
    let start : at - bytes ≡ 0 = omega (arith, long, length-take (at - (at - bytes)) (drop (at - bytes) text)) in
    let width : at - 0 ≡ at = omega arith in
    ap (λ n. take (at - n) (drop n text)) start ∙ ap (λ n. take n text) width

-- ---- records

mark_high : (i : ℕ) (begins : Bool) (text : List ℕ) (k : ℕ) → mark_from i begins text ≡ Some k → k < i + length text
mark_high i begins [] k is = absurd (cc is)
mark_high i begins (byte ∷ text) k is = by_mark (begins && is_mark (byte ∷ text)) is (mark_high (i + 1) (byte == 10) text k)
  where
    by_mark : (t : Bool) → cond t (Some i) (mark_from (i + 1) (byte == 10) text) ≡ Some k → (mark_from (i + 1) (byte == 10) text ≡ Some k → k < i + 1 + length text) → k < i + length (byte ∷ text)
    by_mark true is rest = let at : i ≡ k = cc in omega arith
    by_mark false is rest = omega (arith, rest is)

next_is : (last : Option ℕ) (text : List ℕ) (f : Whole) → next_whole last text ≡ Some f → length text < 2 ^ 64 → IsRecord f.entry × (follows last f.entry.number ≡ true)
unfolding next_whole
next_is last text f is short =
    let one = and_then_some (mark_from 0 true text) (λ at. option_and_then (whole_if last at) (whole_at text at)) f is in
    let at = one.0 in
    let from_zero : at ≡ 0 + at = omega arith in
    let high : at < 0 + length text = mark_high 0 true text at one.1 in
    let two = and_then_some (whole_at text at) (whole_if last at) f one.2 in
    let three = cond_some (length two.0.entry.rows == at && follows last two.0.entry.number) two.0 f two.2 in
    let tests = and_parts (length two.0.entry.rows == at) (follows last two.0.entry.number) three.0 in
    let same : two.0 ≡ f = three.1 in
    let long : length f.entry.rows ≡ at = ap (λ (w : Whole). length w.entry.rows) (sym same) ∙ eqb-true (length two.0.entry.rows) at tests.0 in
    let behind : follows last f.entry.number ≡ true = ap (λ (w : Whole). follows last w.entry.number) (sym same) ∙ tests.1 in
    let parts = whole_parts text at f (two.1 ∙ ap Some same) (omega arith) in
    let m = parts.mark in
    let entry = parts.entry in
    let rows : f.entry.rows ≡ take at text = ap (λ (e : Entry). e.rows) (sym entry) ∙ all_in_front text at m.bytes (ap (λ (e : Entry). length e.rows) entry ∙ long) in (
      record {
        rows = ap are_rows rows ∙ rows_before 0 at true text (one.1 ∙ ap Some from_zero);
        position = ap (λ (e : Entry). is_position e.position) (sym entry) ∙ parts.fits.position;
        number = subst (λ (e : Entry). e.number < 2 ^ 64) entry parts.fits.number;
        lines = subst (λ (e : Entry). e.lines < 2 ^ 64) entry parts.fits.lines;
        size = omega (arith, long, high);
        sum = parts.sum;
      },
      behind,
    )

read_step : (last : Option ℕ) (whole text : List ℕ) (o : Option Whole) → next_whole last whole ≡ o → length whole < 2 ^ 64 → (b : Behind)
    → ((f : Whole) → AreRecords (Some f.entry.number) (read_from (Some f.entry.number) (f.end - 1) text).entries)
    → AreRecords last (option_map_or (λ (f : Whole). with_whole f (read_from (Some f.entry.number) (f.end - 1) text)) o (reading_with [] 0 b)).entries
read_step last whole text None is short b rest = tt
read_step last whole text (Some f) is short b rest =
    let one = next_is last whole f is short in
    (one.0, one.1, rest f)

pub read_are : (last : Option ℕ) (skip : ℕ) (text : List ℕ) → length text < 2 ^ 64 → AreRecords last (read_from last skip text).entries
unfolding read_from
read_are last zero [] short = tt
read_are last (suc skip) [] short = tt
read_are last (suc skip) (byte ∷ text) short = read_are last skip text (omega arith)
read_are last zero (byte ∷ text) short =
    read_step last (byte ∷ text) text (next_whole last (byte ∷ text)) refl short (behind_of last (byte ∷ text)) (λ f. read_are (Some f.entry.number) (f.end - 1) text (omega arith))
