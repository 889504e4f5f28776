use Rattle.std.proofs.Common.{length}
use Rattle.wsm_follow.proofs.choice.+last_packed.Given as goal

abbrev pub decreases-last_packed : goal.decreases-last_packed
decreases-last_packed l = length l.files.now
