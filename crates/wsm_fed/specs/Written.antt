-- What a source writes behind its first line: the lines of pieces of a log, each piece with an `at` behind it.
use Rattle.std.specs.Prelude.{◌≡◌, ◌<◌, ◌≤◌, ◌^◌, ℕ, List, [], ◌∷◌, ◌++◌, length, map, true, codes}
use Rattle.std.specs.Fmt.{decimal}
use Rattle.wsm_journal.specs.Text.{is_position}
use Rattle.wsm_fed.specs.Fed.{Came, Chunk, chunk_with}

pub record Piece : Type 0 where
  pub lines : List (List ℕ)
  pub position : List ℕ

abbrev pub line_row : List ℕ → List ℕ
line_row line = 58 ∷ line

abbrev pub at_row : ℕ → List ℕ → List ℕ
at_row count position = codes "at," ++ (decimal count ++ (44 ∷ position))

abbrev pub written : List Piece → List (List ℕ)
written [] = []
written (p ∷ ps) = map line_row p.lines ++ (at_row (length p.lines) p.position ∷ written ps)

-- the lines, each with its line feed
abbrev pub text_of : List (List ℕ) → List ℕ
text_of [] = []
text_of (line ∷ lines) = line ++ (10 ∷ text_of lines)

abbrev pub chunks_of : List Piece → List Chunk
chunks_of [] = []
chunks_of (p ∷ ps) = chunk_with (text_of p.lines) p.position ∷ chunks_of ps

-- the piece has lines, not too many, and a position
pub record IsPiece (p : Piece) : Type 0 where
  pub some : 0 < length p.lines
  pub count : length p.lines < 2 ^ 64
  pub room : length (text_of p.lines) ≤ 16777216
  pub position : is_position p.position ≡ true

abbrev pub ArePieces : List Piece → Type 0
ArePieces [] = Unit {0}
ArePieces (p ∷ ps) = IsPiece p × ArePieces ps

-- what was taken is a beginning of what is taken
abbrev pub IsFirst : Came → Came → Type 0
IsFirst came all = (more : List Chunk) × (came.chunks ++ more ≡ all.chunks)
