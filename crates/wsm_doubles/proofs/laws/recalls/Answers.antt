use Rattle.wsm_doubles.proofs.Forgotten.{nothing_yet, recalls_on, stays_unknown}
use Rattle.wsm_doubles.proofs.laws.recalls.Goals as goal

pub returns-clause-begins : goal.returns-clause-begins
returns-clause-begins c = nothing_yet

pub returns-clause-rises : goal.returns-clause-rises
returns-clause-rises c = recalls_on

pub returns-clause-unknown : goal.returns-clause-unknown
returns-clause-unknown c = stays_unknown
