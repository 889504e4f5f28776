use Rattle.std.proofs.Common.{length}
use Rattle.wsm_verifier.proofs.types.+have_types_of.Given as goal

abbrev pub decreases-have_types_of : goal.decreases-have_types_of
decreases-have_types_of l = length l.stack.now
