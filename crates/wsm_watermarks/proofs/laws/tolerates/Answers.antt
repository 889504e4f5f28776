use Rattle.wsm_watermarks.proofs.Tolerance as tolerance
use Rattle.wsm_watermarks.proofs.laws.tolerates.Goals as goal

pub returns : goal.returns
returns c = tolerance.tolerates
