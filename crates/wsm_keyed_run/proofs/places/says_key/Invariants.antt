use Rattle.std.proofs.Common.{◌≡◌, true, codes}
use Rattle.wsm_tokens.specs.Tokens.{tokens}
use Rattle.wsm_keyed_run.specs.Places.{says}
use Rattle.wsm_keyed_run.proofs.places.says_key.Given as goal

-- what the rest says the text says
abbrev pub invariant-loop-turn : goal.invariant-loop-turn
invariant-loop-turn l = says (codes "KEY") l.reader ≡ true → says (codes "KEY") (tokens l.fn.text) ≡ true
