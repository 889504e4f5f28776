-- Places and their texts, computed.
use Rattle.std.specs.Prelude.{◌≡◌, [], Some, None, true, false, codes, refl}
use Rattle.std.specs.Fmt.{digits}
use Rattle.wsm_sums.specs.Crc.{bit_step, byte_step, rest_after, sum_behind}
use Rattle.wsm_follow.specs.Position.{Place, fits, place_of, place_text}

abbrev behind_two_lines : Place
behind_two_lines = record { file = record { device = 2049; inode = 131 }; offset = 4; head = 408365719; tail = 408365719; name = codes "a.log" }

its_text : place_text behind_two_lines ≡ codes "2049:131:4:408365719:408365719:a.log"
unfolding digits
its_text = refl

read_back : place_of (codes "2049:131:4:408365719:408365719:a.log") ≡ Some behind_two_lines
unfolding place_of
read_back = refl

-- a name may have colons
with_colons : place_of (codes "1:2:0:0:0:a:b") ≡ Some (record { file = record { device = 1; inode = 2 }; offset = 0; head = 0; tail = 0; name = codes "a:b" })
unfolding place_of
with_colons = refl

too_few_numbers : place_of (codes "1:2:0:0:a") ≡ None
unfolding place_of
too_few_numbers = refl

too_great_a_sum : place_of (codes "1:2:3:4294967296:0:a") ≡ None
unfolding place_of
too_great_a_sum = refl

-- the file that was read, with more behind; cut before the place; with another first line
grown : fits behind_two_lines (codes "a\nb\nc\n") ≡ true
unfolding bit_step byte_step rest_after sum_behind
grown = refl

shortened : fits behind_two_lines (codes "a\nb") ≡ false
unfolding bit_step byte_step rest_after sum_behind
shortened = refl

another : fits behind_two_lines (codes "x\nb\nc\n") ≡ false
unfolding bit_step byte_step rest_after sum_behind
another = refl

-- where nothing was read each file fits
nothing_read : fits (record { file = record { device = 2049; inode = 131 }; offset = 0; head = 0; tail = 0; name = [] }) (codes "x\n") ≡ true
unfolding bit_step byte_step rest_after sum_behind
nothing_read = refl
