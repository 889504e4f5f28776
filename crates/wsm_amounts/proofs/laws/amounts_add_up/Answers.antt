use Rattle.wsm_amounts.proofs.Written.{is_shown_less}
use Rattle.wsm_amounts.proofs.Law as law
use Rattle.wsm_amounts.proofs.laws.amounts_add_up.Goals as goal

pub returns-clause-less : goal.returns-clause-less
returns-clause-less c = is_shown_less

pub returns-clause-amounts : goal.returns-clause-amounts
returns-clause-amounts c = law.amounts_add_up
