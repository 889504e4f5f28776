use Rattle.wsm_engine.proofs.StatedCosts.{record_spends, panes_spend}
use Rattle.wsm_engine.proofs.laws.spends_within.Goals as goal

pub returns-clause-records : goal.returns-clause-records
returns-clause-records c = record_spends

pub returns-clause-panes : goal.returns-clause-panes
returns-clause-panes c = panes_spend
