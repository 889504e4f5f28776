-- What is handed out, computed: of a run that repeats each line, and says how many came before it.
use Rattle.std.specs.Prelude.{◌≡◌, [], ◌∷◌, ◌++◌, length, codes, refl}
use Rattle.std.specs.Fmt.{decimal, digits}
use Rattle.wsm_sums.specs.Crc.{bit_step, byte_step, rest_after, sum_behind}
use Rattle.wsm_live.specs.Told.{Turn, handed_out, told, told_for, with_lines}

abbrev repeats : Turn
repeats before line = line ++ codes "," ++ decimal (length before) ++ codes "\n"

told_of_two : told repeats (codes "b" ∷ codes "a" ∷ []) ≡ codes "a,0\n" ∷ codes "b,1\n" ∷ []
unfolding digits
told_of_two = refl

the_second_behind_the_first : told_for repeats (codes "a" ∷ []) (codes "b" ∷ []) ≡ codes "b,1\n" ∷ []
unfolding digits
the_second_behind_the_first = refl

the_newest_first : with_lines (codes "a" ∷ []) (codes "b" ∷ codes "c" ∷ []) ≡ codes "c" ∷ codes "b" ∷ codes "a" ∷ []
the_newest_first = refl

numbered_with_their_sums : handed_out repeats [] (codes "a" ∷ codes "b" ∷ []) ≡ codes "1,2887397139,a,0\n2,3108265224,b,1\n"
unfolding digits bit_step byte_step rest_after sum_behind
numbered_with_their_sums = refl

alike_in_pieces : handed_out repeats (codes "a" ∷ []) (codes "b" ∷ []) ≡ codes "2,3108265224,b,1\n"
unfolding digits bit_step byte_step rest_after sum_behind
alike_in_pieces = refl
