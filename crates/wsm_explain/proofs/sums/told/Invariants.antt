use Rattle.std.proofs.Common.{◌≡◌, ◌++◌}
use Rattle.wsm_tokens.specs.Read.{count}
use Rattle.wsm_explain.specs.Sums.{told, told_from}
use Rattle.wsm_explain.proofs.sums.told.Given as goal

-- what was told so far, and what is told of the rest
abbrev pub invariant-loop-token : goal.invariant-loop-token
invariant-loop-token l = l.told.items ++ told_from l.is_first l.is_behind_records l.reader ≡ told l.text

abbrev pub decreases-loop-token : goal.decreases-loop-token
decreases-loop-token l = count l.reader
