use Rattle.std.proofs.Common.{◌≡◌, ◌+◌, ◌++◌, take, vec_capacity, vec_len}
use Rattle.wsm_deal.proofs.shared_text.with_front.Given as goal

-- the bytes so far stand
abbrev pub invariant-loop-place : goal.invariant-loop-place
invariant-loop-place l = (l.text.items ≡ l.fn.text.items ++ take l.place l.block)
    × (vec_len l.text ≡ vec_len l.fn.text + l.place)
    × (vec_capacity l.text ≡ vec_capacity l.fn.text)
