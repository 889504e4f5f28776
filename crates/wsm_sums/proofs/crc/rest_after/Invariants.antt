use Rattle.std.proofs.Common.{◌≡◌, ◌≤◌, ◌-◌, drop, length}
use Rattle.wsm_sums.specs.Crc.{rest_after}
use Rattle.wsm_sums.proofs.crc.rest_after.Given as goal

-- the bytes that are left go on from what is left so far
abbrev pub invariant-loop-at : goal.invariant-loop-at
invariant-loop-at l = record {
  left : rest_after l.rest l.bytes ≡ rest_after l.left (drop l.at l.bytes);
  within : l.at ≤ length l.bytes;
}

abbrev pub decreases-loop-at : goal.decreases-loop-at
decreases-loop-at l = length l.bytes - l.at
