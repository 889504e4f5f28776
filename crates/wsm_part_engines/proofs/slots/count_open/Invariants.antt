use Rattle.std.proofs.Common.{◌≡◌, ◌≤◌, take}
use Rattle.wsm_part_engines.specs.Slots.{open_count}
use Rattle.wsm_part_engines.proofs.slots.count_open.Given as goal

-- those that were gone over were counted
abbrev pub invariant-loop-slot : goal.invariant-loop-slot
invariant-loop-slot l = record { count : l.open ≡ open_count (take l.slot-index l.slots); few : l.open ≤ l.slot-index }
