-- The texts of numbers are cells that write them.
use Rattle.std.proofs.Common.{◌≡◌, ◌∙◌, ℕ, suc, ◌+◌, ◌/◌, ◌%◌, ◌^◌, ◌<◌, ◌≤◌, true, false, List, [], ◌∷◌, ◌++◌, length, Some, None, refl, ap, arith, length-append}
use Rattle.std.specs.Prelude.{◌==◌, if◌then◌else◌, nat_le, ℤ, pos, negsuc, neg_ℤ}
use Rattle.std.specs.List.{list_all}
use Rattle.std.specs.Fmt.{decimal, signed_decimal}
use Rattle.std.proofs.lemmas.Bool.{and_from, and_parts, le-leb}
use Rattle.std.proofs.lemmas.Bool.Decides.{nat_tests}
use Rattle.std.proofs.lemmas.Int.{ints}
use Rattle.std.proofs.lemmas.Fmt.{decimal_by_steps}
use Rattle.std.proofs.lemmas.List.Folds.{list_all-append}
use Rattle.wsm_record.specs.Name.{is_digit}
use Rattle.wsm_record.specs.Schema.{is_i64}
use Rattle.wsm_csv.specs.Number.{digits_value, in_range, number_of, number_of_digits, signed}
use Rattle.wsm_csv.proofs.NumberLemmas.{digits_value-append}

-- digits that stand for a number
pub record IsNumeralOf (n : ℕ) (ds : List ℕ) : Type 0 where
  pub digits : list_all is_digit ds ≡ true
  pub value : digits_value ds ≡ n
  pub some : 0 < length ds

digit_of : (n : ℕ) → n < 10 → is_digit (48 + n) ≡ true
digit_of n small = and_from _ _ (le-leb 48 (48 + n) (omega arith)) (le-leb (48 + n) 57 (omega arith))

one : (n : ℕ) → n < 10 → IsNumeralOf n ((48 + n) ∷ [])
one n small = record { digits = and_from _ _ (digit_of n small) refl; value = omega arith; some = omega arith }

more : (n : ℕ) (ds : List ℕ) → 10 ≤ n → IsNumeralOf (n / 10) ds → IsNumeralOf n (ds ++ ((48 + n % 10) ∷ []))
more n ds large h = record {
  digits = list_all-append is_digit ds ((48 + n % 10) ∷ []) ∙ and_from _ _ h.digits (and_from _ _ (digit_of (n % 10) (omega arith)) refl);
  value = rw (digits_value-append ds ((48 + n % 10) ∷ []), h.value) (omega arith);
  some = omega (arith, length-append ds ((48 + n % 10) ∷ []), h.some);
}

pub numeral : (n : ℕ) → n < 2 ^ 64 → IsNumeralOf n (decimal n)
numeral = decimal_by_steps IsNumeralOf one more

no_minus : (c : ℕ) → is_digit c ≡ true → (c == 45) ≡ false
no_minus c is = let least = (and_parts (nat_le 48 c) (nat_le c 57) is).0 in grind (arith, nat_tests, least)

-- digits alone, as they are read
digits_read : (n : ℕ) (ds : List ℕ) → IsNumeralOf n ds → number_of ds ≡ in_range (pos n)
digits_read n [] h = absurd (omega (arith, h.some))
digits_read n (c ∷ cs) h =
    let first = (and_parts (is_digit c) (list_all is_digit cs) h.digits).0 in
    ap (λ b. if b then number_of_digits true cs else number_of_digits false (c ∷ cs)) (no_minus c first)
    ∙ ap (λ b. if b then in_range (signed false (digits_value (c ∷ cs))) else None) h.digits
    ∙ ap (λ v. in_range (pos v)) h.value

-- and behind a minus
minus_read : (n : ℕ) (ds : List ℕ) → IsNumeralOf (suc n) ds → number_of (45 ∷ ds) ≡ in_range (negsuc n)
minus_read n [] h = absurd (omega (arith, h.some))
minus_read n (c ∷ cs) h =
    ap (λ b. if b then in_range (signed true (digits_value (c ∷ cs))) else None) h.digits
    ∙ ap (λ v. in_range (neg_ℤ (pos v))) h.value

pub small_pos : (n : ℕ) → is_i64 (pos n) ≡ true → n < 2 ^ 64
small_pos n h = grind (arith, ints, h)

pub small_neg : (n : ℕ) → is_i64 (negsuc n) ≡ true → suc n < 2 ^ 64
small_neg n h = grind (arith, ints, h)

within : (z : ℤ) → is_i64 z ≡ true → in_range z ≡ Some z
within z h = ap (λ b. if b then Some z else None) h

-- a cell with the text of a number writes it
pub number_read : (z : ℤ) → is_i64 z ≡ true → number_of (signed_decimal z) ≡ Some z
number_read (pos n) h = digits_read n (decimal n) (numeral n (small_pos n h)) ∙ within (pos n) h
number_read (negsuc n) h = minus_read n (decimal (suc n)) (numeral (suc n) (small_neg n h)) ∙ within (negsuc n) h
