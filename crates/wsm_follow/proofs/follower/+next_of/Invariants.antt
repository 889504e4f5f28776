use Rattle.std.proofs.Common.{length}
use Rattle.wsm_follow.proofs.follower.+next_of.Given as goal

abbrev pub decreases-next_of : goal.decreases-next_of
decreases-next_of l = length l.files.now
