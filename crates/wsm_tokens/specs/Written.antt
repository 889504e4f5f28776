-- The text that tokens are written as, and tokens without their places. This project's own rule.
use Rattle.std.specs.Prelude.{ℕ, List, [], ◌∷◌, map}
use Rattle.std.specs.List.{join_with_byte}
use Rattle.std.specs.Fmt.{signed_decimal}
use Rattle.wsm_tokens.specs.Tokens.{Token, Word, Mark, Number, Tokens, Then, End, Bad, sign_text}

-- a number has no leading zeros
abbrev pub token_text : Token → List ℕ
token_text (Word w) = w
token_text (Mark s) = sign_text s
token_text (Number n) = signed_decimal n

-- one space between each two
unfoldable pub written : List Token → List ℕ
written ts = join_with_byte 32 (map token_text ts)

-- all places are 0
unfoldable pub bare : Tokens → Tokens
bare (Then t at rest) = Then t 0 (bare rest)
bare (End at) = End 0
bare (Bad fault at) = Bad fault 0

-- tokens at place 0, in front of others
abbrev pub put : List Token → Tokens → Tokens
put [] rest = rest
put (t ∷ ts) rest = Then t 0 (put ts rest)
