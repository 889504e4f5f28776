use Rattle.std.proofs.Common.{length}
use Rattle.wsm_log_rows.proofs.rows.+add_values.Given as goal

abbrev pub decreases-add_values : goal.decreases-add_values
decreases-add_values l = length l.fields.now
