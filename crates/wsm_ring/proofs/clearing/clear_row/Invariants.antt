use Rattle.std.proofs.Common.{◌≡◌, ℕ, ◌<◌, ◌≤◌, ◌⊎◌}
use Rattle.wsm_slots.specs.Slots.{slot_at}
use Rattle.wsm_ring.specs.Ring.{AreCleared, kept_slot}
use Rattle.wsm_ring.proofs.clearing.clear_row.Given as goal

abbrev pub invariant-loop-i : goal.invariant-loop-i
invariant-loop-i l = record {
  cleared : AreCleared l.fn.slots l.slots l.cleared;
  inside : (i : ℕ) → l.row ≤ i → i < l.i → slot_at l.slots.slots i ≡ kept_slot l.limit (slot_at l.fn.slots.slots i);
  outside : (i : ℕ) → (i < l.row) ⊎ (l.i ≤ i) → slot_at l.slots.slots i ≡ slot_at l.fn.slots.slots i;
}
