-- CRC-32 as of ISO-HDLC (zlib's `crc32`): what is left of a division of polynomials over bits, the lowest bit first.
use Rattle.std.specs.Prelude.{ℕ, ◌/◌, ◌%◌, ◌==◌, List, [], ◌∷◌, bit_xor, if◌then◌else◌}

-- the polynomial that divides, its highest power left out and its bits turned round
abbrev pub polynomial : ℕ
polynomial = 0xEDB8_8320

-- ones in each of the 32 bits, with which a division begins and ends
abbrev pub ones : ℕ
ones = 0xFFFF_FFFF

-- one step of the division: the lowest bit goes, and where it was set the polynomial is taken off
unfoldable pub bit_step : ℕ → ℕ
bit_step rest = if rest % 2 == 1 then bit_xor (rest / 2) polynomial else rest / 2

-- a step for each bit of a byte
unfoldable pub byte_step : ℕ → ℕ
byte_step rest = bit_step (bit_step (bit_step (bit_step (bit_step (bit_step (bit_step (bit_step rest)))))))

-- what is left behind some bytes more
unfoldable pub rest_after : ℕ → List ℕ → ℕ
rest_after rest [] = rest
rest_after rest (byte ∷ bytes) = rest_after (byte_step (bit_xor rest byte)) bytes

-- the sum of some bytes that stand behind others, of which the sum is told
unfoldable pub sum_behind : ℕ → List ℕ → ℕ
sum_behind sum bytes = bit_xor (rest_after (bit_xor sum ones) bytes) ones

-- the sum of some bytes
abbrev pub sum_of : List ℕ → ℕ
sum_of bytes = sum_behind 0 bytes
