use Rattle.std.proofs.Common.{length}
use Rattle.wsm_description.proofs.time_part.+stamps_from.Given as goal

abbrev pub decreases-stamps_from : goal.decreases-stamps_from
decreases-stamps_from l = length l.pattern.now
