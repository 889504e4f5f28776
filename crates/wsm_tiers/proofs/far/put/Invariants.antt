use Rattle.std.proofs.Common.{◌≡◌, ◌+◌, length, vec_capacity}
use Rattle.std.specs.VecDeque.{deque_items}
use Rattle.wsm_tiers.specs.Tiers.{AreFilled}
use Rattle.wsm_tiers.proofs.Joined.{with_at}
use Rattle.wsm_tiers.proofs.far.put.Given as goal

abbrev pub invariant-loop-tier : goal.invariant-loop-tier
invariant-loop-tier g l = record {
  filled : AreFilled l.len l.tiers.items;
  items : with_at deque_items l.tier l.carried l.tiers.items ≡ with_at deque_items (l.first + 1) l.initial.carried l.initial.tiers.items;
  room : length l.tiers.items ≡ length l.initial.tiers.items;
  capacity : vec_capacity l.tiers ≡ vec_capacity l.initial.tiers;
}
