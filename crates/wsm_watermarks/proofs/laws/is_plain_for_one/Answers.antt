use Rattle.wsm_watermarks.proofs.Plain.{plain}
use Rattle.wsm_watermarks.proofs.laws.is_plain_for_one.Goals as goal

pub returns : goal.returns
returns c rule one hears step = plain rule one hears step
