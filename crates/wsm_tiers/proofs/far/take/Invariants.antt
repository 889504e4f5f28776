use Rattle.std.proofs.Common.{◌≡◌, length, vec_capacity}
use Rattle.wsm_tiers.specs.Tiers.{joined}
use Rattle.wsm_tiers.proofs.Filled.{Lacks}
use Rattle.wsm_tiers.proofs.far.take.Given as goal

abbrev pub invariant-loop-tier : goal.invariant-loop-tier
invariant-loop-tier g l = record {
  lacks : Lacks l.len l.tier l.tiers.items;
  items : joined l.tiers.items ≡ joined l.initial.tiers.items;
  room : length l.tiers.items ≡ length l.initial.tiers.items;
  capacity : vec_capacity l.tiers ≡ vec_capacity l.initial.tiers;
}
