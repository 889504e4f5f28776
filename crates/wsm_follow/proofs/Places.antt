-- Places that were written are read back, and are positions of a journal.
use Rattle.std.proofs.Common.{◌≡◌, ◌∙◌, ℕ, ◌+◌, ◌/◌, ◌%◌, ◌^◌, ◌<◌, ◌≤◌, List, [], ◌∷◌, ◌++◌, true, false, Some, ap, arith, append_assoc, length, length-append, eqb, nat_le, nat_lt, ◌&&◌, refl}
use Rattle.std.specs.Fmt.{decimal}
use Rattle.std.proofs.lemmas.Bool.{and_from, and_parts}
use Rattle.std.proofs.lemmas.Bool.Decides.{nat_tests}
use Rattle.std.proofs.lemmas.Fmt.{decimal_by_steps, length-decimal-le}
use Rattle.wsm_journal.specs.Text.{has_no_line_feed, is_position}
use Rattle.wsm_follow.specs.Position.{IsPlace, Place, field, is_name, place_of, place_text}
use Rattle.wsm_follow.proofs.Decimals.{decimal_read}

sums_fit : (head tail : ℕ) → head < 2 ^ 32 → tail < 2 ^ 32 → (name : List ℕ) → is_name name ≡ true → (nat_lt head (2 ^ 32) && (nat_lt tail (2 ^ 32) && is_name name)) ≡ true
sums_fit head tail h t name is = rw is (grind (arith, nat_tests))

pub place_read : (p : Place) → IsPlace p → place_of (place_text p) ≡ Some p
unfolding place_of
place_read p is =
    rw (decimal_read p.file.device (field p.file.inode (field p.offset (field p.head (field p.tail p.name)))) is.device)
    (rw (decimal_read p.file.inode (field p.offset (field p.head (field p.tail p.name))) is.inode)
    (rw (decimal_read p.offset (field p.head (field p.tail p.name)) is.offset)
    (rw (decimal_read p.head (field p.tail p.name) (omega (arith, is.head)))
    (rw (decimal_read p.tail p.name (omega (arith, is.tail)))
    (rw (sums_fit p.head p.tail is.head is.tail p.name is.name) refl)))))

-- bytes that have no line feed in front of others
abbrev IsPlain : ℕ → List ℕ → Type 0
IsPlain n digits = (more : List ℕ) → has_no_line_feed (digits ++ more) ≡ has_no_line_feed more

no_feed : (n : ℕ) → eqb (48 + n) 10 ≡ false
no_feed n = grind (arith, nat_tests)

digit_plain : (n : ℕ) → n < 10 → IsPlain n ((48 + n) ∷ [])
digit_plain n small more = rw (no_feed n) refl

more_plain : (n : ℕ) (digits : List ℕ) → 10 ≤ n → IsPlain (n / 10) digits → IsPlain n (digits ++ ((48 + n % 10) ∷ []))
more_plain n digits large plain more = ap has_no_line_feed (append_assoc digits ((48 + n % 10) ∷ []) more) ∙ plain ((48 + n % 10) ∷ more) ∙ rw (no_feed (n % 10)) refl

decimal_plain : (n : ℕ) → n < 2 ^ 64 → (more : List ℕ) → has_no_line_feed (decimal n ++ more) ≡ has_no_line_feed more
decimal_plain n small more = decimal_by_steps IsPlain digit_plain more_plain n small more

field_plain : (n : ℕ) (more : List ℕ) → n < 2 ^ 64 → has_no_line_feed (field n more) ≡ has_no_line_feed more
field_plain n more small = decimal_plain n small (58 ∷ more)

field_short : (n : ℕ) (more : List ℕ) → n < 2 ^ 64 → length (field n more) ≤ 21 + length more
field_short n more small = omega (arith, length-append (decimal n) (58 ∷ more), length-decimal-le 20 n (omega arith) (omega (arith, small)) small)

pub place_is_position : (p : Place) → IsPlace p → is_position (place_text p) ≡ true
place_is_position p is =
    let name = and_parts (nat_le (length p.name) 255) (is_position p.name) is.name in
    let plain : has_no_line_feed (place_text p) ≡ true =
    field_plain p.file.device (field p.file.inode (field p.offset (field p.head (field p.tail p.name)))) is.device
    ∙ field_plain p.file.inode (field p.offset (field p.head (field p.tail p.name))) is.inode
    ∙ field_plain p.offset (field p.head (field p.tail p.name)) is.offset
    ∙ field_plain p.head (field p.tail p.name) (omega (arith, is.head))
    ∙ field_plain p.tail p.name (omega (arith, is.tail)) ∙ (and_parts (nat_le (length p.name) 1024) (has_no_line_feed p.name) name.1).1 in
    let short : length p.name ≤ 255 = grind (arith, nat_tests, name.0) in
    let long : length (place_text p) ≤ 1024 =
    omega (
      arith,
      short,
      field_short p.file.device (field p.file.inode (field p.offset (field p.head (field p.tail p.name)))) is.device,
      field_short p.file.inode (field p.offset (field p.head (field p.tail p.name))) is.inode,
      field_short p.offset (field p.head (field p.tail p.name)) is.offset,
      field_short p.head (field p.tail p.name) (omega (arith, is.head)),
      field_short p.tail p.name (omega (arith, is.tail)),
    ) in
    and_from (nat_le (length (place_text p)) 1024) (has_no_line_feed (place_text p)) (grind (arith, nat_tests, long)) plain
