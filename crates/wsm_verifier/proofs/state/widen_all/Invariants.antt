use Rattle.std.proofs.Common.{◌≡◌}
use Rattle.wsm_verifier.proofs.WidenedStacks.{widened}
use Rattle.wsm_verifier.proofs.state.widen_all.Given as goal

-- the values so far are widened
abbrev pub invariant-loop-place : goal.invariant-loop-place
invariant-loop-place l = l.known ≡ widened l.place l.fn.known l.other
