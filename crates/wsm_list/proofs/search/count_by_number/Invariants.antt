use Rattle.std.proofs.Common.{◌≤◌, ◌+◌, length}
use Rattle.wsm_windows.specs.Places.{place_cmp}
use Rattle.wsm_list.specs.Search.{before}
use Rattle.wsm_list.specs.Stored.{shown}
use Rattle.wsm_list.proofs.search.count_by_number.Given as goal

-- the entries below `low` stand before the place, and those from `low + size` on don't
abbrev pub invariant-loop-size : goal.invariant-loop-size
invariant-loop-size l = record {
  low : l.low ≤ before place_cmp l.place (shown l.slots.slots l.row.row);
  high : before place_cmp l.place (shown l.slots.slots l.row.row) ≤ l.low + l.size;
  within : l.low + l.size ≤ length l.row.row;
}

abbrev pub decreases-loop-size : goal.decreases-loop-size
decreases-loop-size l = l.size
