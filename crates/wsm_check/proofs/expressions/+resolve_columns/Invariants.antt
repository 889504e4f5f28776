use Rattle.std.proofs.Common.{length}
use Rattle.wsm_check.proofs.expressions.+resolve_columns.Given as goal

abbrev pub decreases-resolve_columns : goal.decreases-resolve_columns
decreases-resolve_columns l = length l.exprs.now
