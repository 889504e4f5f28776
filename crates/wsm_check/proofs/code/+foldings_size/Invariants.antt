use Rattle.std.proofs.Common.{length}
use Rattle.wsm_check.proofs.code.+foldings_size.Given as goal

abbrev pub decreases-foldings_size : goal.decreases-foldings_size
decreases-foldings_size l = length l.foldings.now
