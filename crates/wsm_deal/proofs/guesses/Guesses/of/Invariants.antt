use Rattle.std.proofs.Common.{map}
use Rattle.wsm_deal.specs.KeyGuesses.{AreGuesses}
use Rattle.wsm_deal.proofs.guesses.Guesses.of.Given as goal

abbrev pub invariant-loop-number : goal.invariant-loop-number
invariant-loop-number l = AreGuesses (map (λ v. v.items) l.keys) l.block l.guesses.items
