use Rattle.wsm_live.proofs.RowLemmas.{kept_read}
use Rattle.wsm_live.proofs.laws.read_back.Goals as goal

pub returns : goal.returns
returns c = kept_read
