use Rattle.wsm_journal.proofs.Journals.{more_read, torn_read}
use Rattle.wsm_journal.proofs.laws.torn_appends.Goals as goal

pub returns-clause-whole : goal.returns-clause-whole
returns-clause-whole c = more_read

pub returns-clause-torn : goal.returns-clause-torn
returns-clause-torn c = torn_read
