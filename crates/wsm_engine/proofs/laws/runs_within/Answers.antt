use Rattle.wsm_engine.proofs.LongestRuns.{record_paths, firing_paths}
use Rattle.wsm_engine.proofs.laws.runs_within.Goals as goal

pub returns-clause-records : goal.returns-clause-records
returns-clause-records c = record_paths

pub returns-clause-firings : goal.returns-clause-firings
returns-clause-firings c = firing_paths
