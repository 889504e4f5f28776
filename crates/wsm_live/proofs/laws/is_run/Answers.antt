use Rattle.wsm_live.proofs.ProtocolLemmas as lemmas
use Rattle.wsm_live.proofs.laws.is_run.Goals as goal

pub returns : goal.returns
returns c = lemmas.is_run
