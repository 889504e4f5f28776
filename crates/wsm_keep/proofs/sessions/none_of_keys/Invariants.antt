use Rattle.wsm_keep.specs.OfKeys.{AreNone}
use Rattle.wsm_keep.proofs.sessions.none_of_keys.Given as goal

abbrev pub invariant-loop-count : goal.invariant-loop-count
invariant-loop-count l = AreNone l.parting.gap l.keys.items
