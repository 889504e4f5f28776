use Rattle.wsm_semantics.proofs.ShownOnce as shown_once
use Rattle.wsm_semantics.proofs.laws.fires_once.Goals as goal

pub returns : goal.returns
returns c = shown_once.fires_once
