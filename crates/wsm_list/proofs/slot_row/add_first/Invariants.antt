use Rattle.std.proofs.Common.{◌≡◌, ◌++◌, take}
use Rattle.std.specs.Prelude.{vec_capacity}
use Rattle.wsm_list.proofs.slot_row.add_first.Given as goal

abbrev pub invariant-loop-i : goal.invariant-loop-i
invariant-loop-i l = record {
  items : l.numbers.items ≡ l.fn.numbers.items ++ take l.i l.others.items;
  capacity : vec_capacity l.numbers ≡ vec_capacity l.fn.numbers;
}
