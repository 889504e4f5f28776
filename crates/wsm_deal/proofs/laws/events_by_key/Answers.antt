use Rattle.wsm_deal.proofs.KeysOf.{events_dealt}
use Rattle.wsm_deal.proofs.laws.events_by_key.Goals as goal

pub returns : goal.returns
returns c = λ s declared keys part rows. events_dealt s declared part rows keys
