use Rattle.std.proofs.Common.{◌≡◌}
use Rattle.wsm_tokens.specs.Read.{count}
use Rattle.wsm_explain.specs.Standing.{tokens_at, tokens_from}
use Rattle.wsm_explain.proofs.standing.reader_at.Given as goal

-- from the token that is in sight it goes up to the same one
abbrev pub invariant-loop-position : goal.invariant-loop-position
invariant-loop-position l = tokens_at l.text l.position l.reader ≡ tokens_from l.text l.position

abbrev pub decreases-loop-position : goal.decreases-loop-position
decreases-loop-position l = count l.reader
