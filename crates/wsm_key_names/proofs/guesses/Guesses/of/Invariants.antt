use Rattle.std.proofs.Common.{map}
use Rattle.wsm_key_names.specs.Guesses.{AreGuesses}
use Rattle.wsm_key_names.proofs.guesses.Guesses.of.Given as goal

abbrev pub invariant-loop-number : goal.invariant-loop-number
invariant-loop-number l = AreGuesses (map (λ v. v.items) l.names) l.guesses.guesses.items
