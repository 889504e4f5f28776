use Rattle.wsm_fed.proofs.WrittenLemmas.{written_came}
use Rattle.wsm_fed.proofs.laws.read_back.Goals as goal

pub returns : goal.returns
returns c = written_came
