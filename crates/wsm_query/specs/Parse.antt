-- The reading of a whole text: its tree, or the first fault with its position.
use Rattle.std.specs.Prelude.{◌≡◌, ℕ, List, Result, Ok, Err}
use Rattle.wsm_tokens.specs.declared.fault.ParseRefusal.{ParseRefusal}
use Rattle.wsm_tokens.specs.declared.fault.ParseRefusal.TheVariants as refusals
use Rattle.wsm_tokens.specs.Position.{position_of}
use Rattle.wsm_tokens.specs.Tokens.{tokens}
use Rattle.wsm_tokens.specs.Read.{Read, Rule, Took, Stopped, ◌>>=◌, give, ended}
use Rattle.wsm_query.specs.declared.query.Query.{Query as CodeQuery}
use Rattle.wsm_query.specs.Tree.{Query}
use Rattle.wsm_query.specs.Seen.{seen}
use Rattle.wsm_query.specs.Grammar.{query}

-- a query, behind which only the end of the text is taken
unfoldable pub query_text : Rule Query
query_text = do
  q ← query
  _ ← ended
  give q

-- a rule, behind which only the end of the text is taken
abbrev pub to_end : {A : Type 0} → Rule A → Rule A
to_end rule = do
  x ← rule
  _ ← ended
  give x

abbrev pub outcome : List ℕ → Read Query → Result Query ParseRefusal
outcome text (Took q rest) = Ok q
outcome text (Stopped f) = Err (refusals.Text f.fault (position_of text f.offset))

unfoldable pub parse : List ℕ → Result Query ParseRefusal
parse text = outcome text (query_text (tokens text))

-- a refusal is the reading's, but for want of memory
abbrev pub Refuses : ParseRefusal → Result Query ParseRefusal → Type 0
Refuses (refusals.Text fault at) read = read ≡ Err (refusals.Text fault at)
Refuses refusals.Memory read = Unit {0}

abbrev pub Parses : Result CodeQuery ParseRefusal → Result Query ParseRefusal → Type 0
Parses (Ok q) read = read ≡ Ok (seen q)
Parses (Err refusal) read = Refuses refusal read
