use Rattle.std.proofs.Common.{◌∙◌, take_all, w64}
use Rattle.std.proofs.lemmas.Int.{to_z-of_z}
use Rattle.std.specs.List.{fold}
use Rattle.std.specs.Int.{int_min}
use Rattle.wsm_admission.proofs.marks.least_of.Goals as goal

pub returns : goal.returns
returns c = c.loop-mark.invariant ∙ (λ i. fold int_min (to_z-of_z w64 c.args.first c.ranges.first i) (take_all c.loop-mark.mark-index c.args.others.now c.loop-mark-test.false i))
