-- The first line of a log.
use Rattle.std.specs.Prelude.{ℕ, List, [], ◌∷◌}

-- the first of some lines, the newest first
abbrev pub first_behind : List ℕ → List (List ℕ) → List ℕ
first_behind line [] = line
first_behind line (other ∷ before) = first_behind other before

abbrev pub first_of : List (List ℕ) → List ℕ
first_of [] = []
first_of (line ∷ before) = first_behind line before
