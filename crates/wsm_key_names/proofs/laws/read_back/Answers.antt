use Rattle.wsm_key_names.proofs.ReadBack.{reads_back}
use Rattle.wsm_key_names.proofs.laws.read_back.Goals as goal

pub returns : goal.returns
returns c = reads_back
