use Rattle.std.proofs.Common.{◌≤◌, ◌-◌, length}
use Rattle.wsm_list.specs.Stored.{shown}
use Rattle.wsm_list.proofs.Ended.{ended}
use Rattle.wsm_list.proofs.search.ended.Given as goal

-- the entries below `low` end by the time, and those from `high` on past it
abbrev pub invariant-loop-low : goal.invariant-loop-low
invariant-loop-low l = record {
  low : l.low ≤ ended l.time (shown l.slots.slots l.row.row);
  high : ended l.time (shown l.slots.slots l.row.row) ≤ l.high;
  within : l.high ≤ length l.row.row;
}

abbrev pub decreases-loop-low : goal.decreases-loop-low
decreases-loop-low l = l.high - l.low
