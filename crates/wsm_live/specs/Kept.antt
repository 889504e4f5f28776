-- Lines of a log as a journal keeps them: each with a colon in front, so that none begins as a line of the journal's own.
use Rattle.std.specs.Prelude.{ℕ, List, [], ◌∷◌, ◌++◌, drop, map}
use Rattle.wsm_follow.specs.Ended.{ended_lines, kept_lines}

-- `:LINE`, a line feed, for each line
abbrev pub rows_of : List (List ℕ) → List ℕ
rows_of [] = []
rows_of (line ∷ lines) = 58 ∷ (line ++ 10 ∷ rows_of lines)

-- the lines that rows were made of
abbrev pub lines_of_rows : List ℕ → List (List ℕ)
lines_of_rows rows = map (drop 1) (ended_lines rows)

-- as much of each as is read
abbrev pub read_lines : (longest : ℕ) → List ℕ → List (List ℕ)
read_lines longest rows = kept_lines longest (lines_of_rows rows)
