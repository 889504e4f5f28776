-- The lines of a text that have ended, as they are kept.
use Rattle.std.specs.Prelude.{ℕ, ◌==◌, List, [], ◌∷◌, ◌++◌, if◌then◌else◌, map}
use Rattle.wsm_log.specs.LinesOf.{kept}

-- behind the first bytes of a line
abbrev pub ended_from : List ℕ → List ℕ → List (List ℕ)
ended_from part [] = []
ended_from part (b ∷ bs) = if b == 10 then part ∷ ended_from [] bs else ended_from (part ++ b ∷ []) bs

-- the lines that a line feed ends
abbrev pub ended_lines : List ℕ → List (List ℕ)
ended_lines bytes = ended_from [] bytes

abbrev pub kept_lines : ℕ → List (List ℕ) → List (List ℕ)
kept_lines longest lines = map (kept longest) lines
