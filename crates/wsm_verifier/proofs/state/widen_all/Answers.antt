use Rattle.std.proofs.Common.{◌∙◌, arith}
use Rattle.wsm_verifier.proofs.WidenedStacks.{widened_step, widened_all}
use Rattle.wsm_verifier.proofs.state.widen_all.Goals as goal

pub loop-place-preserved : goal.loop-place-preserved
loop-place-preserved c = widened_step c.loop-place.place _ c.args.known.now c.args.other.now c.loop-place.known _ _ c.hull.result (omega arith) c.loop-place.invariant c.hull.ensures (omega arith) (omega arith)

pub returns : goal.returns
returns c = c.loop-place.invariant ∙ widened_all c.loop-place.place c.args.known.now c.args.other.now (omega arith) (omega arith) (λ h. omega arith)
