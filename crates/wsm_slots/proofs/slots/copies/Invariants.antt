use Rattle.std.proofs.Common.{◌≡◌, ◌≤◌, replicate}
use Rattle.std.specs.Prelude.{vec_capacity}
use Rattle.wsm_slots.proofs.slots.copies.Given as goal

abbrev pub invariant-loop : goal.invariant-loop
invariant-loop g l = record {
  items : l.values.items ≡ replicate l.counter l.value;
  room : l.count ≤ vec_capacity l.values;
}
