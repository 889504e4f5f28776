use Rattle.std.proofs.Common.{length}
use Rattle.wsm_follow.proofs.names.+behind_name.Given as goal

abbrev pub decreases-behind_name : goal.decreases-behind_name
decreases-behind_name l = length l.log.now
