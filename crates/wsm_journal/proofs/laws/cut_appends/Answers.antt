use Rattle.std.proofs.Common.{refl}
use Rattle.wsm_journal.proofs.Moments.{cut_append}
use Rattle.wsm_journal.proofs.laws.cut_appends.Goals as goal

pub returns-clause-moments : goal.returns-clause-moments
returns-clause-moments c = cut_append

pub returns-clause-last : goal.returns-clause-last
returns-clause-last c = λ old more. refl
