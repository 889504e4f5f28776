use Rattle.wsm_compiler.proofs.TotalPanes.{stands_for_meant}
use Rattle.wsm_compiler.proofs.laws.stands_for_meant.Goals as goal

pub returns : goal.returns
returns c = stands_for_meant
