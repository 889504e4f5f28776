use Rattle.wsm_machine.proofs.FittingSums.{sums_fit}
use Rattle.wsm_machine.proofs.laws.sums_fit.Goals as goal

pub returns : goal.returns
returns c = sums_fit
