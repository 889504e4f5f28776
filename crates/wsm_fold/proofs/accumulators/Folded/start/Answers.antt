use Rattle.std.proofs.Common.{pos}
use Rattle.wsm_record.specs.declared.event.Value.TheVariants.{Int}
use Rattle.wsm_fold.proofs.Rows.{copied_among, blank_behind}
use Rattle.wsm_fold.proofs.accumulators.Folded.start.Goals as goal

pub invariant_of-result : goal.invariant_of-result
invariant_of-result c = (
  c.requires,
  copied_among 16 (Int (pos 0)) c.args.values.now _ c.copy_from_slice.ensures.after c.requires,
  blank_behind 16 (Int (pos 0)) c.args.values.now _ c.copy_from_slice.ensures.after,
)
