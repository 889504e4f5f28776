use Rattle.std.proofs.Common.{◌≡◌, ℕ, ◌≤◌, ◌⊎◌, ◌<ℤ◌, Some}
use Rattle.wsm_windows.specs.declared.place.Place.{Place}
use Rattle.wsm_ring.proofs.Scan.{left_until}
use Rattle.wsm_ring.specs.Ring.{IsFromOn, IsOnGrid}
use Rattle.wsm_slots.specs.Slots.{slot_at}
use Rattle.wsm_ring.proofs.walking.first_until.Given as goal

-- what is from the first window on is from this one on
abbrev pub invariant-loop-start : goal.invariant-loop-start
invariant-loop-start l = record {
  grid : IsOnGrid l.ring l.start;
  later : (l.fn.start <ℤ l.start) ⊎ ((l.start ≡ l.fn.start) × (l.fn.key ≤ l.key));
  left : (i : ℕ) (e : Place × _) → slot_at l.slots.slots i ≡ Some e → IsFromOn l.fn.start l.fn.key e.0 → IsFromOn l.start l.key e.0;
}

abbrev pub decreases-loop-start : goal.decreases-loop-start
decreases-loop-start l = left_until l.start l.last
