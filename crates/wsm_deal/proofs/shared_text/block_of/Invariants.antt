use Rattle.std.proofs.Common.{◌≡◌, length, take}
use Rattle.wsm_deal.proofs.shared_text.block_of.Given as goal

-- the block begins with the bytes so far
abbrev pub invariant-loop-place : goal.invariant-loop-place
invariant-loop-place l = (length l.block ≡ 16) × (take l.place l.block ≡ take l.place l.text)
