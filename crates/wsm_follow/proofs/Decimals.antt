-- Numbers that were written are read back.
use Rattle.std.proofs.Common.{◌≡◌, ◌∙◌, ℕ, ◌+◌, ◌-◌, ◌*◌, ◌/◌, ◌%◌, ◌^◌, ◌<◌, ◌≤◌, List, [], ◌∷◌, ◌++◌, true, false, Some, option_and_then, ap, arith, append_assoc, eqb}
use Rattle.std.specs.Fmt.{decimal}
use Rattle.std.proofs.lemmas.Fmt.{decimal_by_steps}
use Rattle.std.proofs.lemmas.Bool.Decides.{nat_tests}
use Rattle.wsm_follow.specs.Names.{is_digit}
use Rattle.wsm_follow.specs.Position.{with_digit, number_from, number_of}

digit_more : (value byte n : ℕ) → 48 ≤ byte → byte ≤ 57 → 0 < value → value * 10 + (byte - 48) ≡ n → n < 2 ^ 64 → with_digit value byte ≡ Some n
digit_more value byte n low high some is fits = grind (arith, nat_tests)

digit_first : (byte n : ℕ) (y : List ℕ) → 48 ≤ byte → byte ≤ 57 → byte - 48 ≡ n → number_of (byte ∷ y) ≡ number_from n y
digit_first byte n y low high is =
    let digit : is_digit byte ≡ true = grind (arith, nat_tests) in
    rw digit (ap (λ m. number_from m y) is)

digit_next : (value byte n : ℕ) (y : List ℕ) → 48 ≤ byte → with_digit value byte ≡ Some n → number_from value (byte ∷ y) ≡ number_from n y
digit_next value byte n y low more =
    let no_colon : eqb byte 58 ≡ false = grind (arith, nat_tests) in
    rw no_colon (ap (λ o. option_and_then (λ m. number_from m y) o) more)

-- digits read as their number, whatever stands behind them
abbrev IsRead : ℕ → List ℕ → Type 0
IsRead n digits = n < 2 ^ 64 → (y : List ℕ) → number_of (digits ++ y) ≡ number_from n y

one_digit : (n : ℕ) → n < 10 → IsRead n ((48 + n) ∷ [])
one_digit n small fits y = digit_first (48 + n) n y (omega arith) (omega arith) (omega arith)

digit_behind : (n : ℕ) (digits : List ℕ) → 10 ≤ n → IsRead (n / 10) digits → IsRead n (digits ++ ((48 + n % 10) ∷ []))
digit_behind n digits large read fits y =
    ap number_of (append_assoc digits ((48 + n % 10) ∷ []) y)
    ∙ read (omega arith) ((48 + n % 10) ∷ y)
    ∙ digit_next (n / 10) (48 + n % 10) n y (omega arith) (digit_more (n / 10) (48 + n % 10) n (omega arith) (omega arith) (omega arith) (omega arith) fits)

pub decimal_read : (n : ℕ) (y : List ℕ) → n < 2 ^ 64 → number_of (decimal n ++ (58 ∷ y)) ≡ Some (n, y)
decimal_read n y fits = decimal_by_steps IsRead one_digit digit_behind n fits fits (58 ∷ y)
