-- Rows with their lines, computed.
use Rattle.std.specs.Prelude.{◌≡◌, [], ◌∷◌, codes, refl}
use Rattle.wsm_log.specs.LinesOf.{kept_lines_of, lines_of}

no_line : lines_of [] ≡ []
no_line = refl

one_line : lines_of (codes "a\n") ≡ codes "a" ∷ []
one_line = refl

without_its_line_feed : lines_of (codes "a\nb") ≡ codes "a" ∷ codes "b" ∷ []
without_its_line_feed = refl

empty_lines : lines_of (codes "\n\na\n\n") ≡ [] ∷ [] ∷ codes "a" ∷ [] ∷ []
empty_lines = refl

-- a carriage return is a byte of the line
carriage_returns : lines_of (codes "a\r\n\r\n") ≡ codes "a\r" ∷ codes "\r" ∷ []
carriage_returns = refl

cut : kept_lines_of 1 (codes "abc\nabcd\nab") ≡ codes "abc" ∷ codes "abc" ∷ codes "ab" ∷ []
cut = refl
