use Rattle.std.proofs.Common.{length}
use Rattle.wsm_check.proofs.code.+firing_need.Given as goal

abbrev pub decreases-firing_need : goal.decreases-firing_need
decreases-firing_need l = length l.columns.now
