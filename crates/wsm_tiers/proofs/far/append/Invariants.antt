use Rattle.std.proofs.Common.{◌≡◌, ◌++◌, take}
use Rattle.std.specs.Prelude.{vec_capacity}
use Rattle.wsm_tiers.proofs.far.append.Given as goal

abbrev pub invariant-loop-i : goal.invariant-loop-i
invariant-loop-i g l = record {
  items : l.items.items ≡ l.fn.items.items ++ take l.i l.tier.items;
  capacity : vec_capacity l.items ≡ vec_capacity l.fn.items;
}
