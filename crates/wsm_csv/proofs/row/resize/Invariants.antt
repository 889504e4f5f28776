use Rattle.std.proofs.Common.{◌≡◌, length, max, vec_capacity}
use Rattle.wsm_csv.proofs.row.resize.Given as goal

abbrev pub invariant-loop-made : goal.invariant-loop-made
invariant-loop-made l = record {
  count : length l.values.items ≡ l.made;
  room : vec_capacity l.values ≡ max (vec_capacity l.fn.values) l.count;
}
