use Rattle.wsm_sums.proofs.Sums.{sum_behind-append}
use Rattle.wsm_sums.proofs.laws.sums_go_on.Goals as goal

pub returns : goal.returns
returns c = sum_behind-append
