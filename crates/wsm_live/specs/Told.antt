-- What is written for lines, in whatever pieces they come. Lines before are the newest first, lines that come the oldest first.
use Rattle.std.specs.Prelude.{ℕ, List, [], ◌∷◌, ◌++◌, length}
use Rattle.wsm_numbered.specs.Numbered.{lines_in, numbered, sum_over}

-- the bytes that are written for a line behind others
abbrev pub Turn : Type 0
Turn = List (List ℕ) → List ℕ → List ℕ

-- lines with further ones
abbrev pub with_lines : List (List ℕ) → List (List ℕ) → List (List ℕ)
with_lines before [] = before
with_lines before (line ∷ lines) = with_lines (line ∷ before) lines

-- the lines that are written for lines behind others
abbrev pub told_for : Turn → List (List ℕ) → List (List ℕ) → List (List ℕ)
told_for turn before [] = []
told_for turn before (line ∷ lines) = lines_in (turn before line) ++ told_for turn (line ∷ before) lines

-- all lines that were written
abbrev pub told : Turn → List (List ℕ) → List (List ℕ)
told turn [] = []
told turn (line ∷ before) = told turn before ++ lines_in (turn before line)

-- what is handed out for lines: each line that is written with its number among all, and the sum up to it
abbrev pub handed_out : Turn → List (List ℕ) → List (List ℕ) → List ℕ
handed_out turn before lines = numbered (length (told turn before)) (sum_over 0 (told turn before)) (told_for turn before lines)
