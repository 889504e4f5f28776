use Rattle.std.proofs.Common.{length}
use Rattle.wsm_lines.proofs.name_filter.+mark_fields.Given as goal

abbrev pub decreases-mark_fields : goal.decreases-mark_fields
decreases-mark_fields l = length l.fields.now
