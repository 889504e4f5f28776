use Rattle.std.proofs.Common.{◌≡◌, ◌⊎◌, ◌≤◌, ◌-◌, suc, true, false, length}
use Rattle.wsm_sessions.specs.Placing.{is_ended_at}
use Rattle.wsm_sessions.proofs.linking.count_ended.Given as goal

-- those in front of `low` end by the time, and those from `high` on don't
abbrev pub invariant-loop-low : goal.invariant-loop-low
invariant-loop-low l = record {
  low : is_ended_at l.time l.windows.items l.low ≡ true;
  high : (l.high ≡ length l.windows.items) ⊎ (is_ended_at l.time l.windows.items (suc l.high) ≡ false);
  order : l.low ≤ l.high;
  within : l.high ≤ length l.windows.items;
}

abbrev pub decreases-loop-low : goal.decreases-loop-low
decreases-loop-low l = l.high - l.low
