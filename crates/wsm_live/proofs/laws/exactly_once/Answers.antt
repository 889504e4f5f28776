use Rattle.wsm_live.specs.Protocol.{run_by}
use Rattle.wsm_live.proofs.ProtocolLemmas.{is_run}
use Rattle.wsm_live.proofs.laws.exactly_once.Goals as goal

pub returns : goal.returns
returns c = λ turn events. c.exactly_once.ensures (run_by turn) events (is_run turn)
