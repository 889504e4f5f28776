use Rattle.std.proofs.Common.{◌≡◌}
use Rattle.wsm_values.specs.Decimal.{padded}
use Rattle.wsm_values.proofs.decimal.padded.Given as goal

-- the zeros that are left are still to come
abbrev pub invariant-loop-left : goal.invariant-loop-left
invariant-loop-left l = padded l.fn.value l.fn.zeros ≡ padded l.sum l.left

abbrev pub decreases-loop-left : goal.decreases-loop-left
decreases-loop-left l = l.left
