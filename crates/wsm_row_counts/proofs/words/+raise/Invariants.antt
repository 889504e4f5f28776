use Rattle.std.proofs.Common.{length}
use Rattle.wsm_row_counts.proofs.words.+raise.Given as goal

abbrev pub decreases-raise : goal.decreases-raise
decreases-raise l = length l.counts.now
