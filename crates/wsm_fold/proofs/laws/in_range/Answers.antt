use Rattle.wsm_fold.proofs.Columns.{in_range}
use Rattle.wsm_fold.proofs.laws.in_range.Goals as goal

pub returns : goal.returns
returns c = in_range
