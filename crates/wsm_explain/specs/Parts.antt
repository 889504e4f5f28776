-- The parts of a query's text, told by the words that begin them. This project's own rule.
use Rattle.std.specs.Prelude.{ℕ, ◌-◌, List, [], ◌∷◌, ◌++◌, length, take, drop, cond, Option, Some, None, unwrap_or, codes}
use Rattle.std.specs.List.{suffix_len}
use Rattle.std.specs.Char.{is_ascii_whitespace}
use Rattle.serde_json.specs.Data.{Data, string, object, member, no_members}
use Rattle.wsm_tokens.specs.Tokens.{Tokens, Then, End, Bad, tokens}
use Rattle.wsm_tokens.specs.Read.{begins, unexpected}
use Rattle.wsm_tokens.specs.Position.{position_of}
use Rattle.wsm_explain.specs.declared.parts.Piece.{Piece}
use Rattle.wsm_explain.specs.declared.parts.Piece.TheVariants.{Keys, Field, Sources, Clock, Budget, Column, Where, Having, Window, Trigger, Emit}
use Rattle.wsm_explain.specs.declared.parts.Turn.{Turn}
use Rattle.wsm_explain.specs.declared.parts.Turn.TheVariants.{Stays, Begins, Follows}
use Rattle.wsm_explain.specs.declared.parts.Open.{Open}
use Rattle.wsm_explain.specs.declared.parts.Span.{Span}
use Rattle.wsm_explain.specs.Json.{natural, text_data, list_data}

-- where the next token stands
abbrev pub place_of : Tokens → ℕ
place_of ts = (unexpected ts).offset

-- a comma begins another column, and is between names elsewhere
abbrev pub comma_in : Piece → Turn
comma_in Column = Follows Column
comma_in p = Stays

-- FROM WINDOW is of the clock
abbrev pub window_in : Piece → Turn
window_in Clock = Stays
window_in p = Begins Window

-- the second trigger
abbrev pub late_in : Piece → Turn
late_in Trigger = Stays
late_in p = Begins Trigger

-- from WINDOW on
abbrev pub turn_at_end : Piece → Tokens → Turn
turn_at_end p ts =
    cond (begins (codes "WINDOW") ts) (window_in p)
    (cond (begins (codes "EARLY") ts) (Begins Trigger)
    (cond (begins (codes "LATE") ts) (late_in p)
    (cond (begins (codes "EMIT") ts) (Begins Emit) Stays)))

-- from SELECT on
abbrev pub turn_selected : Piece → Tokens → Turn
turn_selected p ts =
    cond (begins (codes "SELECT") ts) (Follows Column)
    (cond (begins (codes ",") ts) (comma_in p)
    (cond (begins (codes "WHERE") ts) (Follows Where)
    (cond (begins (codes "HAVING") ts) (Follows Having) (turn_at_end p ts))))

-- whether another part begins with the next token or behind it
abbrev pub turn_of : Piece → Tokens → Turn
turn_of p ts =
    cond (begins (codes "FIELD") ts) (Begins Field)
    (cond (begins (codes "SOURCES") ts) (Begins Sources)
    (cond (begins (codes "START") ts) (Begins Clock)
    (cond (begins (codes "BUDGET") ts) (Begins Budget) (turn_selected p ts))))

-- the part that begins at a token or behind it, if one does
abbrev pub begun : Turn → ℕ → ℕ → Option Open
begun Stays at behind = None
begun (Begins p) at behind = Some (record { piece = p; begin = at })
begun (Follows p) at behind = Some (record { piece = p; begin = behind })

abbrev pub closed : Open → ℕ → Span
closed o end = record { piece = o.piece; begin = o.begin; end = end }

-- where another part begins at a token, the one before ends there
abbrev pub ended : Open → ℕ → Option Open → List Span
ended o at None = []
ended o at (Some next) = closed o at ∷ []

-- the parts from one on that is open; each ends where the next one's word stands
unfoldable pub spans_from : Open → Tokens → List Span
spans_from o (Then t at rest) =
    let next = begun (turn_of o.piece (Then t at rest)) (place_of (Then t at rest)) (place_of rest) in
    ended o (place_of (Then t at rest)) next ++ spans_from (unwrap_or next o) rest
spans_from o (End at) = closed o (place_of (End at)) ∷ []
spans_from o (Bad fault at) = closed o (place_of (Bad fault at)) ∷ []

-- the first part are the keys
abbrev pub spans_of : List ℕ → List Span
spans_of text = spans_from (record { piece = Keys; begin = place_of (tokens text) }) (tokens text)

-- ---- what is told of them

abbrev pub piece_word : Piece → List ℕ
piece_word Keys = codes "keys"
piece_word Field = codes "field"
piece_word Sources = codes "sources"
piece_word Clock = codes "clock"
piece_word Budget = codes "budget"
piece_word Column = codes "column"
piece_word Where = codes "where"
piece_word Having = codes "having"
piece_word Window = codes "window"
piece_word Trigger = codes "trigger"
piece_word Emit = codes "emit"

-- without the blanks at its end
abbrev pub trimmed : List ℕ → List ℕ
trimmed s = take (length s - suffix_len is_ascii_whitespace s) s

abbrev pub between : List ℕ → ℕ → ℕ → List ℕ
between text begin end = trimmed (drop begin (take end text))

abbrev pub text_in : List ℕ → Span → List ℕ
text_in text s = between text s.begin s.end

-- a part, where it begins, its length in bytes, and its text
abbrev pub span_data : List ℕ → Span → Data
span_data text s =
    object
    (member (codes "column") (natural (position_of text s.begin).column)
    (member (codes "length") (natural (length (text_in text s)))
    (member (codes "line") (natural (position_of text s.begin).line)
    (member (codes "part") (string (piece_word s.piece))
    (member (codes "text") (text_data (text_in text s)) no_members)))))

abbrev pub parts_data : List ℕ → Data
parts_data text = list_data (span_data text) (spans_of text)
