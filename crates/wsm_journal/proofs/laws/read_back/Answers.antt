use Rattle.wsm_journal.proofs.Journals.{written_read}
use Rattle.wsm_journal.proofs.laws.read_back.Goals as goal

pub returns : goal.returns
returns c = written_read
