use Rattle.std.proofs.Common.{length}
use Rattle.wsm_follow.proofs.choice.+has_own.Given as goal

abbrev pub decreases-has_own : goal.decreases-has_own
decreases-has_own l = length l.files.now
