-- Sums of texts that stand behind one another, and how great a sum is.
use Rattle.std.proofs.Common.{◌≡◌, ℕ, ◌<◌, ◌^◌, List, [], ◌∷◌, ◌++◌, true, nat_lt, bit_xor, refl, sym, ap, ◌∙◌, arith}
use Rattle.std.specs.List.{list_all}
use Rattle.std.proofs.lemmas.Bool.{and_parts, ltb-true}
use lib.Bits.{xor_lt}
use Rattle.wsm_sums.specs.Crc.{ones, byte_step, rest_after, sum_behind}
use Rattle.wsm_sums.proofs.Steps.{xor_back, byte_step_lt}

pub rest_after-append : (rest : ℕ) (first second : List ℕ) → rest_after rest (first ++ second) ≡ rest_after (rest_after rest first) second
unfolding rest_after
rest_after-append rest [] second = refl
rest_after-append rest (byte ∷ first) second = rest_after-append (byte_step (bit_xor rest byte)) first second

-- the sum goes on behind the first text as if that were begun with its sum
pub sum_behind-append : (sum : ℕ) (first second : List ℕ) → sum_behind sum (first ++ second) ≡ sum_behind (sum_behind sum first) second
unfolding sum_behind
sum_behind-append sum first second =
    let left : ℕ = rest_after (bit_xor sum ones) first in
    ap (λ n. bit_xor n ones) (rest_after-append (bit_xor sum ones) first second ∙ ap (λ n. rest_after n second) (sym (xor_back left ones)))

-- what is left behind bytes stays in 32 bits
rest_after-lt : (rest : ℕ) (bytes : List ℕ) → rest < 2 ^ 32 → list_all (λ byte. nat_lt byte 256) bytes ≡ true → rest_after rest bytes < 2 ^ 32
unfolding rest_after
rest_after-lt rest [] small all = small
rest_after-lt rest (byte ∷ bytes) small all =
    let parts = and_parts _ _ all in
    let here : byte < 256 = ltb-true byte 256 parts.0 in
    rest_after-lt (byte_step (bit_xor rest byte)) bytes (byte_step_lt (bit_xor rest byte) (xor_lt 32 rest byte small (omega arith))) parts.1

pub sum_of-lt : (bytes : List ℕ) → list_all (λ byte. nat_lt byte 256) bytes ≡ true → sum_behind 0 bytes < 2 ^ 32
unfolding sum_behind
sum_of-lt bytes all = xor_lt 32 (rest_after (bit_xor 0 ones) bytes) ones (rest_after-lt (bit_xor 0 ones) bytes (omega arith) all) (omega arith)
