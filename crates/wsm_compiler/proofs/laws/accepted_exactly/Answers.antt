use Rattle.wsm_compiler.proofs.Accepted.{faultless_exactly, accepted_exactly, accepted_without_budget}
use Rattle.wsm_compiler.proofs.laws.accepted_exactly.Goals as goal

pub returns-clause-sections : goal.returns-clause-sections
returns-clause-sections c = faultless_exactly

pub returns-clause-program : goal.returns-clause-program
returns-clause-program c = accepted_exactly

pub returns-clause-without_budget : goal.returns-clause-without_budget
returns-clause-without_budget c = accepted_without_budget
