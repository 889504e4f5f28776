use Rattle.std.proofs.Common.{◌≡◌, drop}
use Rattle.wsm_fold.specs.Fold.{are_of_kinds}
use Rattle.wsm_machine.proofs.inputs.are_of_kinds.Given as goal

-- those so far are of their kinds
abbrev pub invariant-loop-i : goal.invariant-loop-i
invariant-loop-i l = are_of_kinds (drop l.i l.kinds) (drop l.i l.values) ≡ are_of_kinds l.kinds l.values
