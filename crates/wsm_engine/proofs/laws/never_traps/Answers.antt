use Rattle.wsm_engine.proofs.StatedCosts.{record_ends, firings_end}
use Rattle.wsm_engine.proofs.laws.never_traps.Goals as goal

pub returns-clause-records : goal.returns-clause-records
returns-clause-records c = record_ends

pub returns-clause-firings : goal.returns-clause-firings
returns-clause-firings c = firings_end
