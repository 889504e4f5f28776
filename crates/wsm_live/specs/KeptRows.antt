-- Rows of lines, computed.
use Rattle.std.specs.Prelude.{◌≡◌, [], ◌∷◌, true, codes, refl}
use Rattle.wsm_follow.specs.Ended.{ended_lines}
use Rattle.wsm_journal.specs.Text.{are_rows}
use Rattle.wsm_live.specs.Kept.{lines_of_rows, read_lines, rows_of}

-- a line that has not ended is in no row
two_lines : rows_of (ended_lines (codes "a,1\n\nb,2")) ≡ codes ":a,1\n:\n"
two_lines = refl

their_lines : lines_of_rows (codes ":a,1\n:\n") ≡ codes "a,1" ∷ [] ∷ []
their_lines = refl

of_a_long_line_two_bytes_more : read_lines 3 (codes ":abcdefgh\n:a\n") ≡ codes "abcde" ∷ codes "a" ∷ []
of_a_long_line_two_bytes_more = refl

-- a line of the log may look like one of the journal's
like_a_mark : are_rows (rows_of (ended_lines (codes "at,1,2,3,4,5\n"))) ≡ true
like_a_mark = refl
