use Rattle.std.proofs.Common.{◌≡◌, ◌≤◌, drop, length}
use Rattle.wsm_tiers.proofs.list.TieredList.drop_first.Given as goal

abbrev pub decreases-loop-left : goal.decreases-loop-left
decreases-loop-left g l = l.left

abbrev pub invariant-loop-left : goal.invariant-loop-left
invariant-loop-left g l = record {
  items : drop l.left l.self.items ≡ drop l.count l.initial.self.items;
  within : l.left ≤ length l.self.items;
  room : l.self.room ≡ l.initial.self.room;
}
