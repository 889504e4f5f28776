use Rattle.wsm_journal.proofs.Bytes.{sum_fits}
use Rattle.wsm_journal.proofs.laws.sums_fit.Goals as goal

pub returns : goal.returns
returns c = sum_fits
