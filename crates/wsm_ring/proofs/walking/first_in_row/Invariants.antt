use Rattle.wsm_ring.specs.Ring.{NoneInRow}
use Rattle.wsm_ring.proofs.walking.first_in_row.Given as goal

abbrev pub invariant-loop-key : goal.invariant-loop-key
invariant-loop-key l = NoneInRow l.slots.slots l.row l.start l.fn.key l.key
