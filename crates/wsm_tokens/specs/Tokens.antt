-- The tokens of a text, each with the offset of its first byte. This project's own rule.
use Rattle.std.specs.Prelude.{ℕ, zero, suc, ◌+◌, ◌-◌, ◌*◌, Bool, ◌||◌, cond, List, [], ◌∷◌, length, take, drop, nat_le, nat_lt, nat_eq, ℤ, pos, Option, Some, None, codes, fold, find}
use Rattle.std.specs.List.{starts_with, prefix_len}
use Rattle.wsm_record.specs.Name.{is_letter, is_digit, is_word_byte}
use Rattle.wsm_record.specs.declared.limits.TheConstants.{MAX_NAME}
use Rattle.wsm_tokens.specs.declared.fault.Fault.{Fault}
use Rattle.wsm_tokens.specs.declared.fault.Fault.TheVariants.{BadCharacter, NumberTooLarge}
use Rattle.wsm_tokens.specs.declared.token.Sign.{Sign}
use Rattle.wsm_tokens.specs.declared.token.Sign.TheVariants as signs
use Rattle.wsm_tokens.specs.declared.token.Token.{Token as Held}
use Rattle.wsm_tokens.specs.declared.token.Token.TheVariants as held

pub data Token : Type 0 where
  Word : (spelling : List ℕ) → Token
  Mark : (sign : Sign) → Token
  Number : (value : ℤ) → Token

-- the token that a value of the code stands for
abbrev pub token_of : Held → Token
token_of (held.Word w) = Word w.now
token_of (held.Sign s) = Mark s
token_of (held.Number n) = Number n

-- the tokens from an offset on: to the end of the text, or to the first place where none can be read
pub data Tokens : Type 0 where
  Then : (token : Token) → (at : ℕ) → (rest : Tokens) → Tokens
  End : (at : ℕ) → Tokens
  Bad : (fault : Fault) → (at : ℕ) → Tokens

abbrev pub sign_text : Sign → List ℕ
sign_text signs.Comma = codes ","
sign_text signs.Semicolon = codes ";"
sign_text signs.Open = codes "("
sign_text signs.Close = codes ")"
sign_text signs.Dot = codes "."
sign_text signs.DotDot = codes ".."
sign_text signs.Plus = codes "+"
sign_text signs.Minus = codes "-"
sign_text signs.Star = codes "*"
sign_text signs.Slash = codes "/"
sign_text signs.Percent = codes "%"
sign_text signs.Equal = codes "="
sign_text signs.NotEqual = codes "<>"
sign_text signs.Less = codes "<"
sign_text signs.LessOrEqual = codes "<="
sign_text signs.Greater = codes ">"
sign_text signs.GreaterOrEqual = codes ">="

-- the longer ones first
abbrev pub all_signs : List Sign
all_signs =
    signs.DotDot ∷ signs.NotEqual ∷ signs.LessOrEqual ∷ signs.GreaterOrEqual ∷ signs.Comma ∷ signs.Semicolon ∷ signs.Open ∷ signs.Close
    ∷ signs.Dot ∷ signs.Plus ∷ signs.Minus ∷ signs.Star ∷ signs.Slash ∷ signs.Percent ∷ signs.Equal ∷ signs.Less
    ∷ signs.Greater ∷ []

-- the longest sign that the text begins with
unfoldable pub sign_of : List ℕ → Option Sign
sign_of text = find (λ s. starts_with nat_eq text (sign_text s)) all_signs

-- space, tab, line feed, carriage return
abbrev pub is_blank : ℕ → Bool
is_blank c = nat_eq c 32 || (nat_eq c 9 || (nat_eq c 10 || nat_eq c 13))

abbrev pub value_of : List ℕ → ℕ
value_of digits = fold (λ n c. 10 * n + (c - 48)) 0 digits

abbrev pub number_limit : ℕ
number_limit = 9223372036854775807

-- what a text begins with: a blank, a token and how many bytes it has behind its first, or none, for a fault so many bytes on
pub data First : Type 0 where
  Blank : First
  Found : (token : Token) → (more : ℕ) → First
  Lost : (fault : Fault) → (on : ℕ) → First

-- a word of a first letter and so many bytes behind it
abbrev pub first_word : ℕ → List ℕ → ℕ → First
first_word c text more = cond (nat_lt more MAX_NAME) (Found (Word (c ∷ take more text)) more) (Lost BadCharacter MAX_NAME)

abbrev pub first_number : ℕ → ℕ → First
first_number value more = cond (nat_le value number_limit) (Found (Number (pos value)) more) (Lost NumberTooLarge 0)

abbrev pub first_sign : Option Sign → First
first_sign None = Lost BadCharacter 0
first_sign (Some s) = Found (Mark s) (length (sign_text s) - 1)

-- the longest token is taken
unfoldable pub first_of : ℕ → List ℕ → First
first_of c text =
    cond (is_blank c) Blank
    (cond (is_letter c) (first_word c text (prefix_len is_word_byte text))
    (cond (is_digit c) (first_number (value_of (c ∷ take (prefix_len is_digit text) text)) (prefix_len is_digit text))
    (first_sign (sign_of (c ∷ text)))))

-- the tokens of a text that begins at an offset, where its first `behind` bytes belong to a token before it
unfoldable pub tokens_from : (behind : ℕ) → (at : ℕ) → List ℕ → Tokens
tokens_from behind at [] = End at
tokens_from (suc behind) at (c ∷ text) = tokens_from behind (at + 1) text
tokens_from zero at (c ∷ text) =
    elim (first_of c text) [
      | Blank ↦ tokens_from zero (at + 1) text
      | Found token more ↦ Then token at (tokens_from more (at + 1) text)
      | Lost fault on ↦ Bad fault (at + on)
    ]

unfoldable pub tokens : List ℕ → Tokens
tokens text = tokens_from 0 0 text

-- the tokens of a text from an offset on
unfoldable pub tokens_at : List ℕ → ℕ → Tokens
tokens_at text offset = tokens_from 0 offset (drop offset text)
