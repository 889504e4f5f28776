use Rattle.wsm_live_run.proofs.TurnLemmas as lemmas
use Rattle.wsm_live_run.proofs.laws.same_text.Goals as goal

pub returns : goal.returns
returns c = lemmas.same_text
