use Rattle.std.proofs.Common.{None, to_z, of_z, w64, arith}
use Rattle.wsm_record.specs.declared.Kind.TheVariants.{Sum}
use Rattle.wsm_rules.proofs.FoldedRanges.{accumulated_next}
use Rattle.wsm_verifier.proofs.accumulated.accumulator_ranges.Goals as goal

pub loop-place-preserved : goal.loop-place-preserved
loop-place-preserved c = record {
  so_far = accumulated_next (to_z w64 (of_z w64 c.args.records)) c.args.kinds.now c.args.folded.now c.loop-place.place Sum None _ _ _ c.range_of.result (omega arith) (omega arith) c.loop-place.invariant.so_far c.range_of.ensures c.in_ok-push.ensures.items;
}
