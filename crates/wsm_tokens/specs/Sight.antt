-- What the reader and the scan of one token keep.
use Rattle.std.specs.Prelude.{◌≡◌, ℕ, pos, ◌+◌, ◌<◌, ◌≤◌, ◌≤ℤ◌, List, length}
use Rattle.wsm_tokens.specs.declared.scan.Seen.{Seen}
use Rattle.wsm_tokens.specs.declared.scan.Seen.TheVariants as seen
use Rattle.wsm_tokens.specs.declared.reader.Sight.{Sight}
use Rattle.wsm_tokens.specs.declared.reader.Sight.TheVariants as sights
use Rattle.wsm_tokens.specs.declared.token.Token.{Token as Held}
use Rattle.wsm_tokens.specs.declared.token.Token.TheVariants as held
use Rattle.wsm_tokens.specs.Tokens.{First, Found, Lost, Then, End, Bad, token_of, tokens_at}

-- no number of a text is negative
abbrev pub NotNegative : Held → Type 0
NotNegative (held.Number n) = pos 0 ≤ℤ n
NotNegative _ = Unit {0}

-- the first token of a text of so many bytes, counted with its first byte
abbrev pub Scans : ℕ → Seen → First → Type 0
Scans len (seen.Token token more) first = (1 + more ≤ len) × (NotNegative token) × (first ≡ Found (token_of token) more)
Scans len (seen.Fault fault on) first = (on < len) × (first ≡ Lost fault on)

-- what stands in sight at an offset of a text
abbrev pub Sees : List ℕ → ℕ → Sight → Type 0
Sees text offset (sights.Token token end) = (end ≤ length text) × (NotNegative token) × (tokens_at text offset ≡ Then (token_of token) offset (tokens_at text end))
Sees text offset sights.End = tokens_at text offset ≡ End offset
Sees text offset (sights.Fault fault at) = tokens_at text offset ≡ Bad fault at
