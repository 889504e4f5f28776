-- Parts, places, sums and ways, computed by the definitions.
use Rattle.std.specs.Prelude.{◌≡◌, refl, ℕ, false, [], ◌∷◌, pos, codes, Err}
use Rattle.wsm_record.specs.declared.words.Kind.TheVariants as kinds
use Rattle.wsm_interval.specs.declared.Arithmetic.TheVariants.{Sub, Mul, Div}
use Rattle.wsm_tokens.specs.Tokens.{tokens, tokens_from, first_of, sign_of}
use Rattle.wsm_tokens.specs.Read.{begins, behind, in_sight, unexpected}
use Rattle.wsm_tokens.specs.declared.fault.Fault.TheVariants.{Unexpected}
use Rattle.wsm_tokens.specs.declared.fault.ParseRefusal.TheVariants as refusals
use Rattle.wsm_tokens.specs.declared.position.Position.{Position}
use Rattle.wsm_tokens.specs.Position.{position_of}
use Rattle.wsm_query.specs.declared.expr.Op.TheVariants.{Compute}
use Rattle.wsm_query.specs.Tree.{Expr, Number, Field, Count, Aggregate, Minus, Binary}
use Rattle.wsm_explain.specs.declared.parts.Piece.{Piece}
use Rattle.wsm_explain.specs.declared.parts.Piece.TheVariants.{Keys, Clock, Column, Window}
use Rattle.wsm_explain.specs.declared.parts.Span.{Span}
use Rattle.wsm_explain.specs.declared.ways.Way.TheVariants.{Sum, Least, Not}
use Rattle.wsm_explain.specs.Parts.{place_of, spans_from, spans_of, text_in}
use Rattle.wsm_explain.specs.Standing as standing
use Rattle.wsm_explain.specs.Sums.{told, told_from}
use Rattle.wsm_explain.specs.Ways.{way_of}

abbrev span : Piece → ℕ → ℕ → Span
span piece begin end = record { piece = piece; begin = begin; end = end }

columns : spans_of (codes "KEYS a;\nSELECT n, KEY WINDOW") ≡ span Keys 0 8 ∷ span Column 15 16 ∷ span Column 18 22 ∷ span Window 22 28 ∷ []
unfolding spans_from tokens tokens_from first_of sign_of begins unexpected
columns = refl

-- the WINDOW of lateness begins no part
lateness : spans_of (codes "START 0; LATENESS 5 FROM WINDOW; SELECT x WINDOW") ≡ span Keys 0 0 ∷ span Clock 0 33 ∷ span Column 40 42 ∷ span Window 42 48 ∷ []
unfolding spans_from tokens tokens_from first_of sign_of begins unexpected
lateness = refl

without_blanks : text_in (codes "KEYS a;\nSELECT n") (span Keys 0 8) ≡ codes "KEYS a;"
without_blanks = refl

-- the second name of two, on the second line
abbrev second : Position
second = record { line = 2; column = 3 }

begins_there : place_of (standing.tokens_from (codes "KEYS\na bcd;") second) ≡ 7
unfolding position_of standing.tokens_at tokens tokens_from first_of sign_of in_sight unexpected
begins_there = refl

is_as_long : standing.length_at (codes "KEYS\na bcd;") (standing.tokens_from (codes "KEYS\na bcd;") second) ≡ 3
unfolding position_of standing.tokens_at tokens tokens_from first_of sign_of behind in_sight unexpected
is_as_long = refl

-- a word at which the reading stops once it is put behind a blank
stops : standing.goes_on second (Err (refusals.Text Unexpected (record { line = 2; column = 4 }))) ≡ false
stops = refl

any_records : told (codes "RECORDS 007 ;") ≡ codes "RECORDS  ;"
unfolding told_from tokens tokens_from first_of sign_of begins
any_records = refl

abbrev total : Expr
total = Aggregate kinds.Sum (Field (codes "n"))

mean : way_of (Binary (Compute Div) total Count) ≡ Not
mean = refl

difference : way_of (Binary (Compute Sub) total (Binary (Compute Mul) (Number (pos 2)) Count)) ≡ Sum
difference = refl

turned_round : way_of (Minus (Aggregate kinds.Max (Field (codes "n")))) ≡ Least
turned_round = refl
