use Rattle.wsm_part_programs.proofs.KeylessRuns as runs
use Rattle.wsm_part_programs.proofs.laws.ignores_keys.Goals as goal

pub returns : goal.returns
returns c = runs.ignores_keys
