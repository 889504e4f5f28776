use Rattle.std.proofs.Common.{◌≡◌, ◌+◌, ◌-◌, ◌≤◌, ◌++◌, length, take, vec_len, vec_capacity}
use Rattle.wsm_relation.specs.Rows.{rows_in}
use Rattle.wsm_relation.proofs.rows.append_all.Given as goal

abbrev pub invariant-loop-i : goal.invariant-loop-i
invariant-loop-i l = record {
  items : l.out.items ≡ l.initial.out.items ++ take l.i (rows_in l.rows);
  within : l.i ≤ length l.rows;
  len : vec_len l.out ≡ vec_len l.initial.out + l.i;
  capacity : vec_capacity l.out ≡ vec_capacity l.initial.out;
}

abbrev pub decreases-loop-i : goal.decreases-loop-i
decreases-loop-i l = length l.rows - l.i
