use Rattle.std.proofs.Common.{◌≡◌, length, vec_capacity}
use Rattle.wsm_tiers.specs.Tiers.{AreFilled}
use Rattle.wsm_tiers.proofs.far.tiers.Given as goal

abbrev pub invariant-loop-made : goal.invariant-loop-made
invariant-loop-made g l = record {
  filled : AreFilled 0 l.tiers.items;
  count : length l.tiers.items ≡ l.made;
  room : vec_capacity l.tiers ≡ l.count;
}
