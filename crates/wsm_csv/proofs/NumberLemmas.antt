-- What digits stand for, one more digit at a time.
use Rattle.std.proofs.Common.{◌≡◌, ℕ, zero, suc, ◌+◌, ◌-◌, ◌*◌, ◌^◌, ◌<◌, ◌≤◌, Bool, true, false, List, [], ◌∷◌, ◌++◌, length, take, drop, get_or, IfSome, Option, Some, None, nat_lt, refl, ap, ◌∙◌, sym, arith, length-append}
use Rattle.std.specs.Prelude.{◌&&◌, if◌then◌else◌}
use Rattle.std.specs.List.{list_all}
use Rattle.std.proofs.Math.Nat.{mul-le-mul_left, pow-le-pow_right}
use Rattle.std.proofs.lemmas.Grind.{pow_more}
use Rattle.std.proofs.lemmas.Nat.{pow-add}
use Rattle.std.proofs.lemmas.List.{take-append-drop, take_more}
use Rattle.std.proofs.lemmas.List.Folds.{list_all-append}
use Rattle.std.proofs.lemmas.Option.{cond_some}
use Rattle.std.proofs.lemmas.Bool.{and_from, le-ltb, lt-ltb}
use Rattle.wsm_record.specs.Name.{is_digit}
use Rattle.wsm_csv.specs.Number.{digits_value, is_numeral, AreDigitsOf, magnitude_behind, magnitude_of}

-- what is in front counts for ten times as much with each digit behind
pub digits_value-append : (xs ys : List ℕ) → digits_value (xs ++ ys) ≡ digits_value xs * 10 ^ length ys + digits_value ys
digits_value-append [] ys = omega arith
digits_value-append (x ∷ xs) ys =
    rw (length-append xs ys, pow-add 10 (length xs) (length ys), digits_value-append xs ys) (omega arith)

pub digits_value-more : (xs : List ℕ) (i : ℕ) → i < length xs → digits_value (take (i + 1) xs) ≡ digits_value (take i xs) * 10 + (get_or xs i 0 - 48)
digits_value-more xs i h = rw (take_more xs i 0 h, digits_value-append) (omega arith)

-- the same behind a number
pub value_from-more : (front : ℕ) (xs : List ℕ) (i : ℕ) → i < length xs
    → front * 10 ^ (i + 1) + digits_value (take (i + 1) xs) ≡ (front * 10 ^ i + digits_value (take i xs)) * 10 + (get_or xs i 0 - 48)
value_from-more front xs i h =
    let more = digits_value-more xs i h in
    rw (pow_more 10 i) (grind (arith, more))

pub pow_ten_pos : (n : ℕ) → 1 ≤ 10 ^ n
pow_ten_pos zero = omega arith
pow_ten_pos (suc n) = let e = pow_ten_pos n in grind (arith, e)

pub digits_value-take-le : (xs : List ℕ) (i : ℕ) → digits_value (take i xs) ≤ digits_value xs
digits_value-take-le xs i =
    let whole = ap digits_value (take-append-drop i xs) in
    let parts = digits_value-append (take i xs) (drop i xs) in
    let more = mul-le-mul_left (digits_value (take i xs)) (pow_ten_pos (length (drop i xs))) in
    omega (arith, whole, parts, more)

is_numeral-some : (xs : List ℕ) → 0 < length xs → is_numeral xs ≡ list_all is_digit xs
is_numeral-some [] h = absurd (omega arith)
is_numeral-some (x ∷ xs) h = refl

kept_out : (b : Bool) (n : ℕ) → nat_lt n (2 ^ 64) ≡ false → (if b && nat_lt n (2 ^ 64) then Some n else None) ≡ None
kept_out true n e = rw e refl
kept_out false n e = refl

-- digits that stand for too much already
pub magnitude-too_large : (xs : List ℕ) (i : ℕ) → 2 ^ 64 ≤ digits_value (take i xs) → magnitude_of xs ≡ None
magnitude-too_large xs i h =
    let below = digits_value-take-le xs i in
    let most : 2 ^ 64 ≤ digits_value xs = omega arith in
    kept_out (is_numeral xs) (digits_value xs) (le-ltb (digits_value xs) (2 ^ 64) most)

-- digits alone, that stand for what fits
pub magnitude-all : (xs : List ℕ) (n : ℕ) → 0 < length xs → list_all is_digit xs ≡ true → n ≡ digits_value xs → n < 2 ^ 64 → magnitude_of xs ≡ Some n
magnitude-all xs n some e v h =
    let fits : digits_value xs < 2 ^ 64 = omega arith in
    rw (is_numeral-some xs some, e, lt-ltb (digits_value xs) (2 ^ 64) fits, v) refl

-- more digits stand for no less
pub below-longer : (n i k : ℕ) → n < 10 ^ i → i ≤ k → n < 10 ^ k
below-longer n i k h few =
    let most : 10 ^ i ≤ 10 ^ k = pow-le-pow_right {n = 10} (omega arith) {i = i} {j = k} few in
    omega (arith, h, most)

-- one digit more
pub below-more : (n d i k : ℕ) → k ≡ i + 1 → n < 10 ^ i → d ≤ 9 → n * 10 + d < 10 ^ k
below-more n d i k next h one = rw (next, pow_more 10 i) (omega (arith, h, one))

-- what digits stand for and what stands behind them
pub magnitude-joined : (xs ys : List ℕ) (front : ℕ) (r : Option ℕ) → 0 < length xs → AreDigitsOf xs front → r ≡ magnitude_behind front ys
    → IfSome r (λ n. n < 10 ^ 18) → IfSome r (λ n. magnitude_of (xs ++ ys) ≡ Some n)
magnitude-joined xs ys front None some first e below = tt
magnitude-joined xs ys front (Some n) some first e below =
    let digits = cond_some (list_all is_digit ys) (front * 10 ^ length ys + digits_value ys) n (sym e) in
    let long = length-append xs ys in
    let whole = digits_value-append xs ys in
    let value : n ≡ digits_value (xs ++ ys) = omega (arith, whole, digits.1, ap (λ m. m * 10 ^ length ys) first.value) in
    magnitude-all (xs ++ ys) n (omega (arith, long, some)) (list_all-append is_digit xs ys ∙ and_from _ _ first.digits digits.0) value (omega (arith, below))
