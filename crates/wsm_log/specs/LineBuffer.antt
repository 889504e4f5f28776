-- What a line buffer holds, and how a line is taken of it.
use Rattle.std.specs.Prelude.{◌≡◌, ◌==◌, ℕ, List, [], ◌∷◌, ◌++◌, if◌then◌else◌, slice_range, take, vec_len}
use Rattle.wsm_log.specs.LinesOf.{HasNoFeed}
use Rattle.wsm_log.specs.declared.line_buffer.LineBuffer.{LineBuffer}

-- the bytes that no line took yet
abbrev pub ahead_of : LineBuffer → List ℕ
ahead_of b = slice_range b.bytes.items b.start b.end

-- what was read before of the line that is taken
abbrev pub part_of : LineBuffer → List ℕ
part_of b = b.part.items

-- the most bytes that are kept of a line
abbrev pub most_of : LineBuffer → ℕ
most_of b = b.most

-- the line that was taken last
abbrev pub line_in : LineBuffer → List ℕ
line_in b = if vec_len b.part == 0 then slice_range b.bytes.items b.line_start b.line_end else b.part.items

-- the line ends at the first line feed of what no line took
pub record TakesLine (old new : LineBuffer) : Type 0 where
  pub piece : List ℕ
  pub plain : HasNoFeed piece
  pub splits : ahead_of old ≡ piece ++ 10 ∷ ahead_of new
  pub line : line_in new ≡ take old.most (part_of old ++ piece)

-- all that no line took is the line's, and it goes on behind
pub record TakesPart (old new : LineBuffer) : Type 0 where
  pub plain : HasNoFeed (ahead_of old)
  pub rest : ahead_of new ≡ []
  pub part : part_of new ≡ take old.most (part_of old ++ ahead_of old)
