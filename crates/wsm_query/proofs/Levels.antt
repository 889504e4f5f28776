-- A level that is opened is one of those that are left.
use Rattle.std.proofs.Common.{◌≡◌, ℕ, arith}
use Rattle.wsm_tokens.specs.Tokens.{Tokens}
use Rattle.wsm_tokens.specs.Read.{and_then, give}
use Rattle.wsm_query.specs.Grammar.{opened, levels}
use Rattle.wsm_query.specs.Steps.{spend, at_level}

pub opens : (n : ℕ) (ts : Tokens) → opened (levels n) ts ≡ and_then (spend n ts) (λ m. give (at_level m))
unfolding levels
opens n ts = grind arith
