use Rattle.wsm_compiler.proofs.ColumnFolds.{folds_hold}
use Rattle.wsm_compiler.proofs.TotalPanes.{updates_hold}
use Rattle.wsm_compiler.proofs.laws.folds_hold.Goals as goal

pub returns-clause-values : goal.returns-clause-values
returns-clause-values c = folds_hold

pub returns-clause-runs : goal.returns-clause-runs
returns-clause-runs c = updates_hold
