use Rattle.std.proofs.Common.{◌≡◌, ◌+◌, ◌-◌, ◌≤◌, ◌++◌, length, drop, vec_len, vec_capacity}
use Rattle.wsm_semantics.specs.Relation.{difference}
use Rattle.wsm_relation.specs.Rows.{rows_in}
use Rattle.wsm_relation.proofs.rows.append_difference.Given as goal

-- what is written, and what is still to be taken, come to the whole
abbrev pub invariant-loop-i : goal.invariant-loop-i
invariant-loop-i l = record {
  items : l.out.items ++ difference (drop l.i (rows_in l.rows)) (drop l.j (rows_in l.others)) ≡ l.initial.out.items ++ difference (rows_in l.rows) (rows_in l.others);
  row : l.i ≤ length l.rows;
  other : l.j ≤ length l.others;
  room : vec_len l.out + (length l.rows - l.i) ≤ vec_capacity l.out;
  capacity : vec_capacity l.out ≡ vec_capacity l.initial.out;
}

abbrev pub decreases-loop-i : goal.decreases-loop-i
decreases-loop-i l = (length l.rows - l.i) + (length l.others - l.j)
