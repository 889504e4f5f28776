-- Sums of bytes that are read in parts.
use Rattle.std.proofs.Common.{◌≡◌, ◌≤◌, ◌+◌, ◌-◌, ◌∙◌, ℕ, List, [], ap, arith, drop, length, refl, sym, take}
use Rattle.std.proofs.lemmas.List.{drop-drop, take-append-le}
use Rattle.std.proofs.Math.Seq.{take-add}
use Rattle.wsm_sums.proofs.Sums.{sum_behind-append}
use Rattle.wsm_sums.specs.Crc.{bit_step, byte_step, rest_after, sum_behind, sum_of}
use Rattle.wsm_follow.specs.Logs.{StandsAt}

-- the sum goes on by a part of what stands at the place where it stopped
pub sum_more : (bytes text : List ℕ) (start at used : ℕ) → start ≤ at → used ≤ length text → StandsAt bytes at text
    → sum_behind (sum_of (take (at - start) (drop start bytes))) (take used text) ≡ sum_of (take ((at + used) - start) (drop start bytes))
sum_more bytes text start at used begun within stands =
    let count : (at + used) - start ≡ (at - start) + used = omega arith in
    let there : start + (at - start) ≡ at = omega arith in
    let piece : take used (drop (at - start) (drop start bytes)) ≡ take used text =
    ap (take used) (drop-drop (at - start) start bytes ∙ ap (λ (n : ℕ). drop n bytes) there ∙ stands) ∙ take-append-le used text (drop (at + length text) bytes) within in
    sym (ap (λ (n : ℕ). sum_of (take n (drop start bytes))) count
    ∙ ap sum_of (take-add (at - start) used (drop start bytes))
    ∙ sum_behind-append 0 (take (at - start) (drop start bytes)) (take used (drop (at - start) (drop start bytes)))
    ∙ ap (sum_behind (sum_of (take (at - start) (drop start bytes)))) piece)

no_sum : sum_of [] ≡ 0
unfolding bit_step byte_step rest_after sum_behind
no_sum = refl

-- the sum of no byte
pub sum_none : (bytes : List ℕ) (start : ℕ) → 0 ≡ sum_of (take (start - start) (drop start bytes))
sum_none bytes start =
    let none : start - start ≡ 0 = omega arith in
    sym (ap (λ (n : ℕ). sum_of (take n (drop start bytes))) none ∙ no_sum)
