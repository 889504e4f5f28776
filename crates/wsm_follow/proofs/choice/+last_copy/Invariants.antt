use Rattle.std.proofs.Common.{length}
use Rattle.wsm_follow.proofs.choice.+last_copy.Given as goal

abbrev pub decreases-last_copy : goal.decreases-last_copy
decreases-last_copy l = length l.files.now
