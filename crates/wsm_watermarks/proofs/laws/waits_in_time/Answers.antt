use Rattle.wsm_watermarks.proofs.InTime as in_time
use Rattle.wsm_watermarks.proofs.laws.waits_in_time.Goals as goal

pub returns : goal.returns
returns g c = in_time.verdicts_in_time
