use Rattle.std.proofs.Common.{length}
use Rattle.wsm_follow.proofs.names.+is_end.Given as goal

abbrev pub decreases-is_end : goal.decreases-is_end
decreases-is_end l = length l.bytes.now
