use Rattle.std.proofs.Common.{sym}
use Rattle.wsm_machine.proofs.PairsAt.{unequal_at}
use Rattle.wsm_machine.proofs.Tested.{accs_tested}
use Rattle.wsm_machine.proofs.inputs.accs_in.Goals as goal

pub returns-then-kinds-accs : goal.returns-then-kinds-accs
returns-then-kinds-accs c = sym (unequal_at (accs_tested c.args.verified.now) 0 c.args.kinds.now c.args.accs.now c.if-kinds-accs.true)
