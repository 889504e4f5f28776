use Rattle.wsm_live.proofs.ProtocolLemmas.{restart_cut, restart_more}
use Rattle.wsm_live.proofs.laws.restarts_alike.Goals as goal

pub returns-clause-more : goal.returns-clause-more
returns-clause-more c = restart_more

pub returns-clause-cut : goal.returns-clause-cut
returns-clause-cut c = restart_cut
