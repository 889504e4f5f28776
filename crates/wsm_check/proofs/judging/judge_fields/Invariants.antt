use Rattle.wsm_check.proofs.ChecksInOrder.{PassedTo}
use Rattle.wsm_check.proofs.judging.judge_fields.Given as goal

abbrev pub invariant-loop-field : goal.invariant-loop-field
invariant-loop-field l = PassedTo l.fields l.field-index l.kept.items
