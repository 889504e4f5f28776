use Rattle.std.proofs.Common.{refl}
use Rattle.wsm_journal.proofs.Moments.{cut_replace}
use Rattle.wsm_journal.proofs.laws.cut_replacements.Goals as goal

pub returns-clause-moments : goal.returns-clause-moments
returns-clause-moments c = cut_replace

pub returns-clause-last : goal.returns-clause-last
returns-clause-last c = λ old new. refl
