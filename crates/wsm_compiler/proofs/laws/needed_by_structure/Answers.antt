use Rattle.wsm_compiler.proofs.Longest.{needed_is, not_longer}
use Rattle.wsm_compiler.proofs.laws.needed_by_structure.Goals as goal

pub returns-clause-needed : goal.returns-clause-needed
returns-clause-needed c = needed_is

pub returns-clause-tests : goal.returns-clause-tests
returns-clause-tests c = not_longer
