use Rattle.wsm_semantics.proofs.AmountLaw as amount_law
use Rattle.wsm_semantics.proofs.laws.amounts_add_up.Goals as goal

pub returns : goal.returns
returns c = amount_law.amounts_add_up
