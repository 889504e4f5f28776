use Rattle.wsm_key_names.proofs.LearnedNames.{reads_by_all, stays_read}
use Rattle.wsm_key_names.proofs.laws.read_by_all.Goals as goal

pub returns-clause-stays : goal.returns-clause-stays
returns-clause-stays c = stays_read

pub returns-clause-all : goal.returns-clause-all
returns-clause-all c = reads_by_all
