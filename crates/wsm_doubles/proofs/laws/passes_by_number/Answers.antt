use Rattle.wsm_doubles.proofs.Numbers.{by_number, own_number}
use Rattle.wsm_doubles.proofs.laws.passes_by_number.Goals as goal

pub returns-clause-numbers : goal.returns-clause-numbers
returns-clause-numbers c = own_number

pub returns-clause-passing : goal.returns-clause-passing
returns-clause-passing c = by_number
