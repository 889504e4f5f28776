use Rattle.std.proofs.Common.{length}
use Rattle.wsm_follow.proofs.choice.+loss_of.Given as goal

abbrev pub decreases-loss_of : goal.decreases-loss_of
decreases-loss_of l = length l.files.now
