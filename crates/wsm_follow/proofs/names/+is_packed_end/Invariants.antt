use Rattle.std.proofs.Common.{length}
use Rattle.wsm_follow.proofs.names.+is_packed_end.Given as goal

abbrev pub decreases-is_packed_end : goal.decreases-is_packed_end
decreases-is_packed_end l = length l.bytes.now
