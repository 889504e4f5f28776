use Rattle.std.proofs.Common.{◌≡◌, ℕ, if◌then◌else◌, length}
use Rattle.std.specs.Prelude.{nat_lt, vec_capacity}
use Rattle.wsm_list.specs.Stored.{listed}
use Rattle.wsm_list.proofs.slot_row.numbers.Given as goal

abbrev pub invariant-loop-number : goal.invariant-loop-number
invariant-loop-number l = record {
  once : (s : ℕ) → listed s l.numbers.items ≡ (if nat_lt s l.number then 1 else 0);
  count : length l.numbers.items ≡ l.number;
  room : vec_capacity l.numbers ≡ l.count;
}
