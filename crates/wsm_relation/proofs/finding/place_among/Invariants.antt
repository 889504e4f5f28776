use Rattle.std.proofs.Common.{◌-◌, ◌≤◌, length}
use Rattle.wsm_relation.specs.Rows.{passed}
use Rattle.wsm_relation.specs.Delta.{rows_of, steps_in}
use Rattle.wsm_relation.proofs.finding.place_among.Given as goal

-- the rows below `low` stand before the row, and those from `high` on don't
abbrev pub invariant-loop-low : goal.invariant-loop-low
invariant-loop-low l = record {
  low : l.low ≤ passed l.row (rows_of (steps_in l.rows l.steps));
  high : passed l.row (rows_of (steps_in l.rows l.steps)) ≤ l.high;
  within : l.high ≤ length l.steps;
}

abbrev pub decreases-loop-low : goal.decreases-loop-low
decreases-loop-low l = l.high - l.low
