use Rattle.wsm_semantics.proofs.Deliveries.{passes_alike}
use Rattle.wsm_semantics.proofs.laws.passes_once.Goals as goal

pub returns : goal.returns
returns c = passes_alike
