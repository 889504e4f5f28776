use Rattle.std.proofs.Common.{◌≡◌, ◌∙◌, ◌-◌, ℕ, ap, ap₂, arith, drop, min, take}
use Rattle.wsm_sums.specs.Crc.{sum_of}
use Rattle.wsm_follow.specs.Logs.{bytes_of}
use Rattle.wsm_follow.proofs.sums.sums_at.Goals as goal

pub returns-in-Some-Some-clause-sums : goal.returns-in-Some-Some-clause-sums
returns-in-Some-Some-clause-sums g c known is =
    let head = c.in_ok-head.ensures.sum known is in
    let tail = c.in_ok-tail.ensures.sum known (ap (bytes_of c.args.file) c.in_ok-head.ensures.logs ∙ is) in
    let first = rw c.in-Some-Some.is-0 at head in
    let last = rw c.in-Some-Some.is-1 at tail in
    let least : c.min.result - 0 ≡ min 256 c.args.offset = omega (arith, c.min.ensures) in
    let most : c.args.offset - c.saturating_sub.result ≡ min 4096 c.args.offset = omega (arith, c.saturating_sub.ensures) in (
      first ∙ ap (λ (n : ℕ). sum_of (take n known)) least,
      last ∙ ap₂ (λ (m n : ℕ). sum_of (take m (drop n known))) most c.saturating_sub.ensures,
    )
