-- The digits that a number is written as.
use Rattle.std.proofs.Common.{◌≡◌, ℕ, ◌+◌, ◌-◌, ◌*◌, ◌/◌, ◌%◌, ◌^◌, ◌<◌, true, List, [], ◌∷◌, ◌++◌, refl, arith}
use Rattle.std.specs.List.{list_all}
use Rattle.std.specs.Fmt.{decimal}
use Rattle.std.proofs.lemmas.Bool.{le-leb}
use Rattle.std.proofs.lemmas.Fmt.{decimal_by_steps}
use Rattle.std.proofs.lemmas.List.Folds.{list_all-append}
use Rattle.std.proofs.lemmas.List.Sums.{fold_push}
use Rattle.wsm_record.specs.Name.{is_digit}
use Rattle.wsm_tokens.specs.Tokens.{value_of}

-- the bytes are digits, and what they are worth
pub record Digits (n : ℕ) (ds : List ℕ) : Type 0 where
  pub digits : list_all is_digit ds ≡ true
  pub value : value_of ds ≡ n

digit : (d : ℕ) → d < 10 → is_digit (48 + d) ≡ true
digit d h = rw (le-leb 48 (48 + d) (omega arith), le-leb (48 + d) 57 (omega arith)) refl

one : (n : ℕ) → n < 10 → Digits n ((48 + n) ∷ [])
one n h = record { digits = rw (digit n h) refl; value = omega arith }

more : (n : ℕ) (ds : List ℕ) → Digits (n / 10) ds → Digits n (ds ++ ((48 + n % 10) ∷ []))
more n ds h =
    let small : n % 10 < 10 = omega arith in
    let back : 10 * (n / 10) + (48 + n % 10 - 48) ≡ n = omega arith in
    record {
      digits = rw (list_all-append is_digit ds ((48 + n % 10) ∷ []), h.digits, digit (n % 10) small) refl;
      value = rw (fold_push (λ n c. 10 * n + (c - 48)) 0 ds (48 + n % 10), h.value) back;
    }

pub decimal_digits : (n : ℕ) → n < 2 ^ 64 → Digits n (decimal n)
decimal_digits = decimal_by_steps Digits one (λ n ds h p. more n ds p)
