-- The combined form of an access log: HOST IDENT USER [TIME] "REQUEST" STATUS BYTES "REFERER" "AGENT". Its
-- cells are these and the request's METHOD PATH PROTOCOL.
use Rattle.std.specs.Prelude.{ℕ, ◌+◌, ◌==◌, ◌&&◌, not, List, [], ◌∷◌, take, drop, Bool, false, if◌then◌else◌, Option, Some, None, option_map, option_and_then, bytes_eq, codes}

-- what was read, and the text behind it
abbrev pub Read : Type 0
Read = Option (List ℕ × List ℕ)

-- where a byte first stands
abbrev pub place_from : ℕ → ℕ → List ℕ → Option ℕ
place_from i end [] = None
place_from i end (byte ∷ text) = if byte == end then Some i else place_from (i + 1) end text

-- a quote with no backslash of its own, and a backslash with none
abbrev pub ends : Bool → ℕ → Bool
ends escaped byte = not escaped && (byte == 34)

abbrev pub escapes : Bool → ℕ → Bool
escapes escaped byte = not escaped && (byte == 92)

-- where the quote stands that ends a text
abbrev pub quote_from : ℕ → Bool → List ℕ → Option ℕ
quote_from i escaped [] = None
quote_from i escaped (byte ∷ text) =
    if ends escaped byte then Some i else quote_from (i + 1) (escapes escaped byte) text

abbrev pub split_at : List ℕ → ℕ → List ℕ × List ℕ
split_at text i = (take i text, drop (i + 1) text)

-- the text up to a byte, and what is behind that
abbrev pub until : ℕ → List ℕ → Read
until end text = option_map (split_at text) (place_from 0 end text)

-- the text behind a byte that it begins with
abbrev pub behind : ℕ → List ℕ → Option (List ℕ)
behind first [] = None
behind first (byte ∷ text) = if byte == first then Some text else None

abbrev pub in_brackets : List ℕ → Read
in_brackets text = option_and_then (until 93) (behind 91 text)

abbrev pub up_to_quote : List ℕ → Read
up_to_quote text = option_map (split_at text) (quote_from 0 false text)

abbrev pub in_quotes : List ℕ → Read
in_quotes text = option_and_then up_to_quote (behind 34 text)

-- nothing is left behind the last part
abbrev pub if_end : List ℕ → List ℕ → Option (List ℕ)
if_end part [] = Some part
if_end part (byte ∷ text) = None

abbrev pub ended : Read → Option (List ℕ)
ended read = option_and_then (λ p. if_end p.0 p.1) read

abbrev pub spaced : Read → Read
spaced read = option_and_then (λ p. option_map (λ rest. (p.0, rest)) (behind 32 p.1)) read

-- the words of a request
pub record RequestWords : Type 0 where
  pub method : List ℕ
  pub path : List ℕ
  pub protocol : List ℕ

abbrev pub with_words : List ℕ → List ℕ → List ℕ → RequestWords
with_words method path protocol = record { method = method; path = path; protocol = protocol }

-- the last word has no space behind it
abbrev pub if_last : List ℕ → List ℕ → List ℕ → Option ℕ → Option RequestWords
if_last method path protocol None = Some (with_words method path protocol)
if_last method path protocol (Some space) = None

-- the three words of a request, where it has three
abbrev pub three_words : List ℕ → Option RequestWords
three_words request =
    option_and_then (λ method. option_and_then (λ path. if_last method.0 path.0 path.1 (place_from 0 32 path.1))
    (until 32 method.1)) (until 32 request)

abbrev pub or_no_words : Option RequestWords → RequestWords
or_no_words None = with_words [] [] []
or_no_words (Some words) = words

abbrev pub request_words : List ℕ → RequestWords
request_words request = or_no_words (three_words request)

-- a dash alone stands for nothing
abbrev pub unless_dash : List ℕ → List ℕ
unless_dash part = if bytes_eq part (codes "-") then [] else part

-- the cells of a line from its parts
abbrev pub cells_of : (host ident user time request status bytes referer agent : List ℕ) → RequestWords → List (List ℕ)
cells_of host ident user time request status bytes referer agent words =
    unless_dash host ∷ unless_dash ident ∷ unless_dash user ∷ unless_dash time ∷ unless_dash request ∷ unless_dash status
    ∷ unless_dash bytes ∷ unless_dash referer ∷ unless_dash agent
    ∷ unless_dash words.method ∷ unless_dash words.path ∷ unless_dash words.protocol ∷ []

-- the cells of a line: three words, a time in brackets, a request in quotes, two words, two texts in
-- quotes, with a space between any two, and no more; and then the three words of the request
abbrev pub access_of : List ℕ → Option (List (List ℕ))
access_of line =
    option_and_then (λ host. option_and_then (λ ident. option_and_then (λ user.
    option_and_then (λ time. option_and_then (λ request.
    option_and_then (λ status. option_and_then (λ bytes.
    option_and_then (λ referer. option_map (λ agent.
    cells_of host.0 ident.0 user.0 time.0 request.0 status.0 bytes.0 referer.0 agent (request_words request.0))
    (ended (in_quotes referer.1))) (spaced (in_quotes bytes.1)))
    (until 32 status.1)) (until 32 request.1))
    (spaced (in_quotes time.1))) (spaced (in_brackets user.1)))
    (until 32 ident.1)) (until 32 host.1)) (until 32 line)
