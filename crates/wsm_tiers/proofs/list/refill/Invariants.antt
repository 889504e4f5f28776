use Rattle.std.proofs.Common.{◌≡◌, ◌++◌, ◌+◌, length}
use Rattle.std.specs.Prelude.{vec_capacity, vec_len}
use Rattle.wsm_tiers.proofs.list.refill.Given as goal

abbrev pub invariant-loop : goal.invariant-loop
invariant-loop g l = record {
  items : l.near.items ++ l.far.items ≡ l.fn.near.items ++ l.fn.far.items;
  left : length l.far.items + l.counter ≡ length l.fn.far.items;
  long : vec_len l.near ≡ vec_len l.fn.near + l.counter;
  capacity : vec_capacity l.near ≡ vec_capacity l.fn.near;
  room : l.far.room ≡ l.fn.far.room;
}
