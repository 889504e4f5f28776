-- The sum of a record of bytes is a number that can be read.
use Rattle.std.proofs.Common.{◌≡◌, ℕ, ◌+◌, ◌%◌, ◌^◌, ◌<◌, ◌≤◌, List, [], ◌∷◌, ◌++◌, length, true, refl, arith}
use Rattle.std.specs.Fmt.{decimal}
use Rattle.std.proofs.lemmas.Bool.{and_parts, and_from, lt-ltb}
use Rattle.std.proofs.lemmas.Fmt.{decimal_by_steps}
use Rattle.wsm_sums.proofs.Sums.{sum_of-lt}
use Rattle.wsm_journal.specs.Text.{Entry, head_text, entry_head, entry_sum}
use Rattle.wsm_journal.specs.Laws.{IsOfBytes, are_bytes}

bytes_append : (xs ys : List ℕ) → are_bytes xs ≡ true → are_bytes ys ≡ true → are_bytes (xs ++ ys) ≡ true
bytes_append [] ys one two = two
bytes_append (x ∷ xs) ys one two =
    let parts = and_parts _ _ one in
    and_from _ _ parts.0 (bytes_append xs ys parts.1 two)

digit_byte : (n : ℕ) → n < 10 → are_bytes ((48 + n) ∷ []) ≡ true
digit_byte n small = and_from _ _ (lt-ltb (48 + n) 256 (omega arith)) refl

digits_bytes : (n : ℕ) (digits : List ℕ) → 10 ≤ n → are_bytes digits ≡ true → are_bytes (digits ++ ((48 + n % 10) ∷ [])) ≡ true
digits_bytes n digits large all = bytes_append digits ((48 + n % 10) ∷ []) all (digit_byte (n % 10) (omega arith))

decimal_bytes : (n : ℕ) → n < 2 ^ 64 → are_bytes (decimal n) ≡ true
decimal_bytes n fits = decimal_by_steps (λ m digits. are_bytes digits ≡ true) digit_byte digits_bytes n fits

cell_bytes : (n : ℕ) (y : List ℕ) → n < 2 ^ 64 → are_bytes y ≡ true → are_bytes (decimal n ++ (44 ∷ y)) ≡ true
cell_bytes n y fits rest = bytes_append (decimal n) (44 ∷ y) (decimal_bytes n fits) rest

head_bytes : (e : Entry) → IsOfBytes e → are_bytes (entry_head e) ≡ true
unfolding entry_head head_text
head_bytes e good = cell_bytes e.number _ good.number (cell_bytes (length e.rows) _ good.size (cell_bytes e.lines [] good.lines refl))

pub sum_fits : (e : Entry) → IsOfBytes e → entry_sum e < 2 ^ 64
unfolding entry_sum
sum_fits e good =
    let all : are_bytes (e.rows ++ (entry_head e ++ e.position)) ≡ true = bytes_append e.rows _ good.rows (bytes_append (entry_head e) _ (head_bytes e good) good.position) in
    let small = sum_of-lt (e.rows ++ (entry_head e ++ e.position)) all in
    omega arith
