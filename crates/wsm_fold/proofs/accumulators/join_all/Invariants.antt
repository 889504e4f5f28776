use Rattle.std.proofs.Common.{◌≡◌}
use Rattle.wsm_fold.proofs.Rows.{joined_up_to}
use Rattle.wsm_fold.proofs.accumulators.join_all.Given as goal

abbrev pub invariant-loop-i : goal.invariant-loop-i
invariant-loop-i l = l.places ≡ joined_up_to l.i l.kinds l.initial.places l.values
