-- The lines of a text, as they are kept.
use Rattle.std.specs.Prelude.{◌≡◌, ◌==◌, ◌+◌, ℕ, false, List, [], ◌∷◌, ◌++◌, Option, Some, None, if◌then◌else◌, map, take, ⊤}
use Rattle.std.specs.List.{onto_first}

-- the lines of a text: a line feed ends each, and the last may have none where it isn't empty
abbrev pub lines_of : List ℕ → List (List ℕ)
lines_of [] = []
lines_of (b ∷ bs) = if b == 10 then [] ∷ lines_of bs else onto_first b (lines_of bs)

-- what is kept of a line of which at most so many bytes are wanted: two more, which tell that it is longer, with a carriage return too
abbrev pub kept : ℕ → List ℕ → List ℕ
kept longest line = take (longest + 2) line

-- what is kept of the lines of a text
abbrev pub kept_lines_of : ℕ → List ℕ → List (List ℕ)
kept_lines_of longest bytes = map (kept longest) (lines_of bytes)

-- these are all the lines of a reader's bytes, as they are kept, where those are known
abbrev pub AreAll : ℕ → Option (List ℕ) → List (List ℕ) → Type 0
AreAll longest None lines = ⊤
AreAll longest (Some bytes) lines = lines ≡ kept_lines_of longest bytes

-- these are a beginning of them
abbrev pub AreFirst : ℕ → Option (List ℕ) → List (List ℕ) → Type 0
AreFirst longest None lines = ⊤
AreFirst longest (Some bytes) lines = (more : List (List ℕ)) × (lines ++ more ≡ kept_lines_of longest bytes)

-- no line feed is among these bytes
abbrev pub HasNoFeed : List ℕ → Type 0
HasNoFeed [] = ⊤
HasNoFeed (b ∷ bs) = ((b == 10) ≡ false) × HasNoFeed bs
