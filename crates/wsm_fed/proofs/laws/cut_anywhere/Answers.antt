use Rattle.wsm_fed.proofs.WrittenLemmas.{first_came}
use Rattle.wsm_fed.proofs.laws.cut_anywhere.Goals as goal

pub returns : goal.returns
returns c = first_came
