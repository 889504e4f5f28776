use Rattle.wsm_watermarks.proofs.Served as served
use Rattle.wsm_watermarks.proofs.Tolerance as tolerance
use Rattle.wsm_watermarks.proofs.laws.never_late.Goals as goal

pub returns-clause-mark : goal.returns-clause-mark
returns-clause-mark c = tolerance.stays_behind

pub returns-clause-verdict : goal.returns-clause-verdict
returns-clause-verdict c = served.never_late
