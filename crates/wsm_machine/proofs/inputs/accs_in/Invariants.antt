use Rattle.std.proofs.Common.{◌≡◌, drop}
use Rattle.wsm_machine.specs.InRange.{accs_in}
use Rattle.wsm_machine.proofs.inputs.accs_in.Given as goal

-- those so far are in range
abbrev pub invariant-loop-a : goal.invariant-loop-a
invariant-loop-a l = accs_in l.verified l.a (drop l.a l.kinds) (drop l.a l.accs) ≡ accs_in l.verified 0 l.kinds l.accs
