-- What is read of heads, computed.
use Rattle.std.specs.Prelude.{◌≡◌, ◌++◌, None, Some, codes, refl}
use Rattle.std.specs.Fmt.{digits}
use Rattle.wsm_live.specs.Head.{behind_row, cut_of, cut_row, cut_with, head_row, own_row}

the_row_of_a_cut : cut_row 12 345 (codes "7,a") ≡ codes "cut,12,345,7,a\n"
unfolding digits
the_row_of_a_cut = refl

is_read : cut_of (codes "cut,12,345,7,a\n") ≡ Some (cut_with 12 345 (codes "7,a"))
is_read = refl

without_a_text : cut_of (codes "cut,0,0,\n") ≡ Some (cut_with 0 0 (codes ""))
without_a_text = refl

no_sum_of_32_bits : cut_of (codes "cut,12,4294967296,7,a\n") ≡ None
no_sum_of_32_bits = refl

another_row : cut_of (codes "gap,12,345,7,a\n") ≡ None
another_row = refl

-- the first row is as long as the one that is asked for, whatever name it has
behind_its_own : behind_row (head_row (codes "0123456789abcdef") 7) (head_row (codes "fedcba9876543210") 7 ++ codes "cut,0,0,\n") ≡ codes "cut,0,0,\n"
unfolding digits
behind_its_own = refl

its_own : own_row (head_row (codes "0123456789abcdef") 7) (head_row (codes "fedcba9876543210") 7 ++ codes "cut,0,0,\n") ≡ head_row (codes "fedcba9876543210") 7
unfolding digits
its_own = refl
