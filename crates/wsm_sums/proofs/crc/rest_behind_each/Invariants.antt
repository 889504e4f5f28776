use Rattle.std.proofs.Common.{◌≡◌, drop}
use Rattle.wsm_sums.specs.Crc.{rest_after}
use Rattle.wsm_sums.proofs.crc.rest_behind_each.Given as goal

-- the bytes that are left go on from what is left so far
abbrev pub invariant-loop-byte : goal.invariant-loop-byte
invariant-loop-byte l = rest_after l.rest l.bytes ≡ rest_after l.left (drop l.byte-index l.bytes)
