use Rattle.wsm_compiler.proofs.Aggregated.{means_the_same, fire_means}
use Rattle.wsm_compiler.proofs.laws.means_the_same.Goals as goal

pub returns-clause-fire : goal.returns-clause-fire
returns-clause-fire c = fire_means

pub returns-clause-expressions : goal.returns-clause-expressions
returns-clause-expressions c = means_the_same
