use Rattle.std.proofs.Common.{◌≡◌, take}
use Rattle.wsm_rules.specs.Rules.{ranges_of}
use Rattle.wsm_verifier.proofs.places.ranges_up_to.Given as goal

-- those of the accumulators so far
abbrev pub invariant-loop-accumulator : goal.invariant-loop-accumulator
invariant-loop-accumulator l = l.ranges.items ≡ take l.accumulator (ranges_of l.program)
