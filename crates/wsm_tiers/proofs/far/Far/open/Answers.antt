use Rattle.wsm_tiers.proofs.Filled.{joined_none}
use Rattle.wsm_tiers.proofs.far.Far.open.Goals as goal

pub returns-clause-empty : goal.returns-clause-empty
returns-clause-empty g c = joined_none c.in_ok-tiers.field-0.items c.in_ok-tiers.ensures.filled
