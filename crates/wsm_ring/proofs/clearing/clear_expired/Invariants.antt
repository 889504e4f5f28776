use Rattle.wsm_ring.specs.Ring.{AreCleared, IsOnGrid}
use Rattle.wsm_ring.proofs.Clears.{AreDone, AreSince}
use Rattle.wsm_ring.proofs.Scan.{left_until}
use Rattle.wsm_ring.proofs.clearing.clear_expired.Given as goal

abbrev pub invariant-loop-start : goal.invariant-loop-start
invariant-loop-start l = record {
  cleared : AreCleared l.fn.slots l.slots l.cleared;
  grid : IsOnGrid l.ring l.start;
  done : AreDone l.limit l.fn.slots.slots l.slots.slots;
  since : AreSince l.start l.slots.slots;
}

abbrev pub decreases-loop-start : goal.decreases-loop-start
decreases-loop-start l = left_until l.start l.last
