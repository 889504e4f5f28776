-- How rules of a grammar read tokens: each takes tokens from where it begins, and ends with what it read and the tokens behind that, or stops.
use Rattle.std.specs.Prelude.{◌≡◌, ℕ, suc, Bool, true, false, List, [], Option, Some, None, Result, Ok, Err, ℤ, bytes_eq}
use Rattle.wsm_record.specs.Name.{is_name}
use Rattle.wsm_tokens.specs.declared.fault.Fault.TheVariants.{Unexpected, TooDeep}
use Rattle.wsm_tokens.specs.declared.fault.TextFault.{TextFault}
use Rattle.wsm_tokens.specs.declared.fault.Stop.{Stop}
use Rattle.wsm_tokens.specs.declared.fault.Stop.TheVariants as stops
use Rattle.wsm_tokens.specs.Tokens.{Token, Word, Mark, Number, Tokens, Then, End, Bad, sign_text}

-- how a rule ends
pub data Read (A : Type 0) : Type 0 where
  Took : (tree : A) → (rest : Tokens) → Read A
  Stopped : (fault : TextFault) → Read A

abbrev pub Rule : Type 0 → Type 0
Rule A = Tokens → Read A

-- reads nothing
abbrev pub give : {A : Type 0} → A → Rule A
give x ts = Took x ts

-- goes on behind what a rule took
abbrev pub and_then : {A B : Type 0} → Read A → (A → Rule B) → Read B
and_then (Took x rest) go = go x rest
and_then (Stopped fault) go = Stopped fault

infixl 10 ◌>>=◌
abbrev pub ◌>>=◌ : {A B : Type 0} → Rule A → (A → Rule B) → Rule B
(rule >>= go) ts = and_then (rule ts) go

-- at a token that isn't taken, at the end of the text, or where no token can be read
unfoldable pub unexpected : Tokens → TextFault
unexpected (Then token at rest) = record { fault = Unexpected; offset = at }
unexpected (End at) = record { fault = Unexpected; offset = at }
unexpected (Bad fault at) = record { fault = fault; offset = at }

-- at a token that opens a level or a turn of a chain too many
unfoldable pub too_deep : Tokens → TextFault
too_deep (Then token at rest) = record { fault = TooDeep; offset = at }
too_deep (End at) = record { fault = Unexpected; offset = at }
too_deep (Bad fault at) = record { fault = fault; offset = at }

-- the next token
unfoldable pub in_sight : Tokens → Option Token
in_sight (Then token at rest) = Some token
in_sight _ = None

-- of a word or a sign
abbrev pub spelling : Token → List ℕ
spelling (Word w) = w
spelling (Mark s) = sign_text s
spelling (Number n) = []

-- whether the next token is the word or sign that is spelled so
unfoldable pub begins : List ℕ → Tokens → Bool
begins s (Then token at rest) = bytes_eq s (spelling token)
begins s _ = false

abbrev pub is_figure : Token → Bool
is_figure (Number n) = true
is_figure _ = false

-- whether the next token is a number
unfoldable pub begins_number : Tokens → Bool
begins_number (Then token at rest) = is_figure token
begins_number _ = false

unfoldable pub is_end : Tokens → Bool
is_end (End at) = true
is_end _ = false

-- without the next token
unfoldable pub behind : Tokens → Tokens
behind (Then token at rest) = rest
behind ts = ts

-- how many tokens are left
unfoldable pub count : Tokens → ℕ
count (Then token at rest) = suc (count rest)
count _ = 0

-- the word or sign that is spelled so
unfoldable pub ask : List ℕ → Rule (Unit {0})
ask s ts = elim (begins s ts) [ true ↦ Took tt (behind ts) | false ↦ Stopped (unexpected ts) ]

unfoldable pub number : Rule ℤ
number (Then (Number n) at rest) = Took n rest
number ts = Stopped (unexpected ts)

-- a word that isn't reserved
unfoldable pub name : Rule (List ℕ)
name (Then (Word w) at rest) = elim (is_name w) [ true ↦ Took w rest | false ↦ Stopped (record { fault = Unexpected; offset = at }) ]
name ts = Stopped (unexpected ts)

-- only the end is taken
unfoldable pub ended : Rule (Unit {0})
ended ts = elim (is_end ts) [ true ↦ Took tt ts | false ↦ Stopped (unexpected ts) ]

-- a rule stops where the code did, but for want of memory
abbrev pub Stops : {A : Type 0} → Stop → Read A → Type 0
Stops (stops.Text fault) read = read ≡ Stopped fault
Stops stops.Memory read = Unit {0}

-- what the code answered, seen by view, and the tokens where it stands then, are what a rule reads, unless memory ran out
abbrev pub Gives : {X A : Type 0} → (X → A) → Result X Stop → Tokens → Read A → Type 0
Gives view (Ok x) rest read = read ≡ Took (view x) rest
Gives view (Err stop) rest read = Stops stop read
