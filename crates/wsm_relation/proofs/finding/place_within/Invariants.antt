use Rattle.std.proofs.Common.{◌-◌, length}
use Rattle.std.specs.Prelude.{⊤}
use Rattle.wsm_relation.proofs.finding.place_within.Given as goal

abbrev pub invariant-loop-high : goal.invariant-loop-high
invariant-loop-high l = ⊤

abbrev pub decreases-loop-high : goal.decreases-loop-high
decreases-loop-high l = length l.steps - l.high
