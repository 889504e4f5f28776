use Rattle.std.proofs.Common.{length}
use Rattle.wsm_verifier.proofs.state.+have_flags_of.Given as goal

abbrev pub decreases-have_flags_of : goal.decreases-have_flags_of
decreases-have_flags_of l = length l.folded.now
