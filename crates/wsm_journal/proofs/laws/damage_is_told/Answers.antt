use Rattle.wsm_journal.proofs.Journals.{damage_read}
use Rattle.wsm_journal.proofs.laws.damage_is_told.Goals as goal

pub returns : goal.returns
returns c = damage_read
