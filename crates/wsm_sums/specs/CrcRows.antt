-- Sums, computed. Their values are those of zlib.
use Rattle.std.specs.Prelude.{◌≡◌, [], codes, refl}
use Rattle.wsm_sums.specs.Crc.{bit_step, byte_step, rest_after, sum_behind, sum_of}

nothing : sum_of [] ≡ 0
unfolding bit_step byte_step rest_after sum_behind
nothing = refl

-- the value by which this CRC is known among others
the_check : sum_of (codes "123456789") ≡ 0xCBF4_3926
unfolding bit_step byte_step rest_after sum_behind
the_check = refl

one_letter : sum_of (codes "a") ≡ 0xE8B7_BE43
unfolding bit_step byte_step rest_after sum_behind
one_letter = refl

in_two_parts : sum_behind (sum_of (codes "1234")) (codes "56789") ≡ 0xCBF4_3926
unfolding bit_step byte_step rest_after sum_behind
in_two_parts = refl
