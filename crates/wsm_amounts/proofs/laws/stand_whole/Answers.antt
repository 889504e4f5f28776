use Rattle.wsm_amounts.proofs.Whole as whole
use Rattle.wsm_amounts.proofs.laws.stand_whole.Goals as goal

pub returns : goal.returns
returns c = whole.stand_whole
