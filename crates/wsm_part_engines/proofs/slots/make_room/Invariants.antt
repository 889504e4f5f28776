use Rattle.std.proofs.Common.{◌≡◌, ℕ, ◌+◌, ◌-◌, ◌^◌, ◌≤◌, length}
use Rattle.wsm_part_engines.specs.Fits.{engine_at}
use Rattle.wsm_part_engines.proofs.slots.make_room.Given as goal

-- there are few, and those that there were
abbrev pub invariant-loop-slots : goal.invariant-loop-slots
invariant-loop-slots l = record {
  few : length l.slots.items ≤ 2 ^ 32;
  same : (other : ℕ) → engine_at l.slots.items other ≡ engine_at l.fn.slots.items other;
}

abbrev pub decreases-loop-slots : goal.decreases-loop-slots
decreases-loop-slots l = l.part + 1 - length l.slots.items
