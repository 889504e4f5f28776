use Rattle.std.proofs.Common.{length}
use Rattle.wsm_check.proofs.code.+firing_size.Given as goal

abbrev pub decreases-firing_size : goal.decreases-firing_size
decreases-firing_size l = length l.columns.now
