use Rattle.wsm_protocol.proofs.Still.{safe}
use Rattle.wsm_protocol.proofs.laws.exactly_once.Goals as goal

pub returns : goal.returns
returns c = safe
