use Rattle.std.proofs.Common.{◌≡◌, ◌++◌, drop}
use Rattle.wsm_rules.specs.Rules.{accumulated_each}
use Rattle.wsm_verifier.proofs.accumulated.accumulator_ranges.Given as goal

-- those of the accumulators before the place, and then those of the rest
abbrev pub invariant-loop-place : goal.invariant-loop-place
invariant-loop-place l = record {
  so_far : l.ranges.items ++ accumulated_each l.fn.records (drop l.place l.kinds) (drop l.place l.folded) ≡ accumulated_each l.fn.records l.kinds l.folded;
}
