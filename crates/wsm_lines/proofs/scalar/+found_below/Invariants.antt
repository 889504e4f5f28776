use Rattle.std.proofs.Common.{length}
use Rattle.wsm_lines.proofs.scalar.+found_below.Given as goal

abbrev pub decreases-found_below : goal.decreases-found_below
decreases-found_below l = length l.names.now
