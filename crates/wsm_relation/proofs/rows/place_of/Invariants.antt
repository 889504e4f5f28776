use Rattle.std.proofs.Common.{◌-◌, ◌≤◌, length}
use Rattle.wsm_relation.specs.Rows.{rows_in, passed}
use Rattle.wsm_relation.proofs.rows.place_of.Given as goal

-- the rows below `low` stand before the row, and those from `high` on don't
abbrev pub invariant-loop-low : goal.invariant-loop-low
invariant-loop-low l = record {
  low : l.low ≤ passed l.row (rows_in l.rows);
  high : passed l.row (rows_in l.rows) ≤ l.high;
  within : l.high ≤ length l.rows;
}

abbrev pub decreases-loop-low : goal.decreases-loop-low
decreases-loop-low l = l.high - l.low
