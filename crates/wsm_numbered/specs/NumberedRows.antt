-- Numbered lines, computed. Their sums are those of zlib.
use Rattle.std.specs.Prelude.{◌≡◌, [], codes, refl}
use Rattle.std.specs.Fmt.{digits}
use Rattle.wsm_sums.specs.Crc.{bit_step, byte_step, rest_after, sum_behind}
use Rattle.wsm_numbered.specs.Numbered.{lines_in, numbered}

two_lines : numbered 0 0 (lines_in (codes "pane,early,a,0,60,1\nrefused,7,BadTag\n")) ≡ codes "1,101025576,pane,early,a,0,60,1\n2,3409100147,refused,7,BadTag\n"
unfolding digits bit_step byte_step rest_after sum_behind
two_lines = refl

the_second_behind_the_first : numbered 1 101025576 (lines_in (codes "refused,7,BadTag\n")) ≡ codes "2,3409100147,refused,7,BadTag\n"
unfolding digits bit_step byte_step rest_after sum_behind
the_second_behind_the_first = refl

no_line : numbered 9 5 (lines_in []) ≡ []
no_line = refl
