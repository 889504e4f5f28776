use Rattle.wsm_compiler.proofs.SectionRuns.{where_runs, fire_runs}
use Rattle.wsm_compiler.proofs.UpdateRuns.{update_runs}
use Rattle.wsm_compiler.proofs.laws.sections_run.Goals as goal

pub returns-clause-selection : goal.returns-clause-selection
returns-clause-selection c = where_runs

pub returns-clause-update : goal.returns-clause-update
returns-clause-update c = update_runs

pub returns-clause-fire : goal.returns-clause-fire
returns-clause-fire c = fire_runs
