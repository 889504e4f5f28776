use Rattle.std.proofs.Common.{sym}
use Rattle.wsm_machine.proofs.Pairs.{unequal}
use Rattle.wsm_machine.proofs.Tested.{kinds_tested}
use Rattle.wsm_machine.proofs.inputs.are_of_kinds.Goals as goal

pub returns-then-kinds-values : goal.returns-then-kinds-values
returns-then-kinds-values c = sym (unequal kinds_tested c.args.kinds.now c.args.values.now c.if-kinds-values.true)
