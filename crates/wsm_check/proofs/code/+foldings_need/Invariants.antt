use Rattle.std.proofs.Common.{length}
use Rattle.wsm_check.proofs.code.+foldings_need.Given as goal

abbrev pub decreases-foldings_need : goal.decreases-foldings_need
decreases-foldings_need l = length l.foldings.now
