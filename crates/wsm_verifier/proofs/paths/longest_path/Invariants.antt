use Rattle.std.proofs.Common.{◌≡◌, ◌≤◌, length, drop, All, IfSome}
use Rattle.wsm_rules.specs.Costs.{ways}
use Rattle.wsm_verifier.proofs.paths.longest_path.Given as goal

-- the ways of the places that were gone over, and no number above the bound
abbrev pub invariant-loop-place : goal.invariant-loop-place
invariant-loop-place l = record {
  long : length l.ways.items ≡ length l.code;
  later : drop l.place l.ways.items ≡ ways l.place (drop l.place l.code);
  short : All (λ way. IfSome way (λ n. n ≤ 1000)) l.ways.items;
}
