use Rattle.std.proofs.Common.{length}
use Rattle.wsm_metrics.proofs.text.+add_metrics.Given as goal

abbrev pub decreases-add_metrics : goal.decreases-add_metrics
decreases-add_metrics l = length l.metrics.now
