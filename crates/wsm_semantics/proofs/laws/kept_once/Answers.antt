use Rattle.wsm_semantics.proofs.KeptAlike as kept_alike
use Rattle.wsm_semantics.proofs.laws.kept_once.Goals as goal

pub returns : goal.returns
returns c = kept_alike.kept_once
