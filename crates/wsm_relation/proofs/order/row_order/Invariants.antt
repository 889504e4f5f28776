use Rattle.std.proofs.Common.{◌≡◌, ◌-◌, ◌≤◌, length, drop}
use Rattle.wsm_semantics.specs.Relation.{row_cmp}
use Rattle.wsm_relation.proofs.order.row_order.Given as goal

-- the columns so far are alike
abbrev pub invariant-loop-i : goal.invariant-loop-i
invariant-loop-i l = record {
  alike : row_cmp l.row l.other ≡ row_cmp (drop l.i l.row) (drop l.i l.other);
  row : l.i ≤ length l.row;
  other : l.i ≤ length l.other;
}

abbrev pub decreases-loop-i : goal.decreases-loop-i
decreases-loop-i l = length l.row - l.i
