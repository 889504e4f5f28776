use Rattle.wsm_amounts.proofs.Rises as rises
use Rattle.wsm_amounts.proofs.laws.rises_alike.Goals as goal

pub returns : goal.returns
returns c = rises.rises_alike
