use Rattle.wsm_named_lines.proofs.Taught.{keeps_said, reads_all, stays_said}
use Rattle.wsm_named_lines.proofs.laws.read_by_all.Goals as goal

pub returns-clause-stays : goal.returns-clause-stays
returns-clause-stays c = stays_said

pub returns-clause-keeps : goal.returns-clause-keeps
returns-clause-keeps c = keeps_said

pub returns-clause-all : goal.returns-clause-all
returns-clause-all c = reads_all
