-- What may stand at the place of a text from which on it can't be read: that behind which the reading goes on, or comes to its end.
use Rattle.std.specs.Prelude.{ℕ, ◌-◌, List, [], ◌∷◌, ◌++◌, length, min, Bool, true, ◌&&◌, not, nat_eq, bytes_eq, cond, is_some, Result, Err, codes}
use Rattle.std.specs.List.{filter}
use Rattle.serde_json.specs.Data.{Data, string}
use Rattle.wsm_record.specs.Name.{reserved_words}
use Rattle.wsm_tokens.specs.declared.fault.ParseRefusal.{ParseRefusal}
use Rattle.wsm_tokens.specs.declared.fault.ParseRefusal.TheVariants as refusals
use Rattle.wsm_tokens.specs.declared.position.Position.{Position}
use Rattle.wsm_tokens.specs.Position.{position_of}
use Rattle.wsm_tokens.specs.Tokens.{Tokens, Then, End, Bad, tokens}
use Rattle.wsm_tokens.specs.Read.{behind, in_sight}
use Rattle.wsm_query.specs.Parse.{parse}
use Rattle.wsm_query.specs.Tree.{Query}
use Rattle.wsm_explain.specs.Json.{list_data}
use Rattle.wsm_explain.specs.Parts.{between, place_of}

-- ---- the place

abbrev pub is_same : Position → Position → Bool
is_same p q = nat_eq p.line q.line && nat_eq p.column q.column

-- a token is in sight that stands at another position
abbrev pub is_in_front : List ℕ → Position → Tokens → Bool
is_in_front text p ts = is_some (in_sight ts) && not (is_same (position_of text (place_of ts)) p)

-- from the first token on that stands at a position
unfoldable pub tokens_at : List ℕ → Position → Tokens → Tokens
tokens_at text p (Then t at rest) = cond (is_in_front text p (Then t at rest)) (tokens_at text p rest) (Then t at rest)
tokens_at text p (End at) = End at
tokens_at text p (Bad fault at) = Bad fault at

abbrev pub tokens_from : List ℕ → Position → Tokens
tokens_from text p = tokens_at text p (tokens text)

-- the length of a token; of a byte by which none begins it is 1, at the end 0
abbrev pub length_at : List ℕ → Tokens → ℕ
length_at text ts =
    cond (is_some (in_sight ts)) (length (between text (place_of ts) (place_of (behind ts)))) (min (length text - place_of ts) 1)

-- ---- what may stand there

-- a name and a number stand for all, nothing for the end of the text
abbrev pub sample_of : List ℕ → List ℕ
sample_of word =
    cond (bytes_eq word (codes "a name")) (codes "zz")
    (cond (bytes_eq word (codes "a number")) (codes "7") (cond (bytes_eq word (codes "the end of the text")) [] word))

-- behind the text up to there and a blank
abbrev pub tried : List ℕ → List ℕ → List ℕ
tried front word = front ++ 32 ∷ word

-- one byte behind another place
abbrev pub is_next : Position → Position → Bool
is_next at p = nat_eq at.line p.line && nat_eq (at.column - 1) p.column

-- the reading doesn't stop where a word begins that was put behind the text up to a position
abbrev pub goes_on : Position → Result Query ParseRefusal → Bool
goes_on p (Err (refusals.Text fault at)) = not (is_next at p)
goes_on p read = true

abbrev pub may_stand : List ℕ → Position → List ℕ → Bool
may_stand front p word = goes_on p (parse (tried front (sample_of word)))

-- the kinds of tokens, the signs, the words of the language, and the end
abbrev pub candidates : List (List ℕ)
candidates =
    codes "a name" ∷ codes "a number" ∷ codes "," ∷ codes ";" ∷ codes "(" ∷ codes ")" ∷ codes "." ∷ codes ".." ∷ codes "+" ∷ codes "-" ∷ codes "*"
    ∷ codes "/" ∷ codes "%" ∷ codes "=" ∷ codes "<>" ∷ codes "<" ∷ codes "<=" ∷ codes ">" ∷ codes ">=" ∷ (reserved_words ++ codes "the end of the text" ∷ [])

abbrev pub reserved_data : Data
reserved_data = list_data string reserved_words

-- what may stand at a position, behind the text up to there
abbrev pub standing_data : List ℕ → Position → Data
standing_data front p = list_data string (filter (may_stand front p) candidates)
