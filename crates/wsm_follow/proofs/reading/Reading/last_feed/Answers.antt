use Rattle.std.proofs.Common.{◌≡◌, ℕ, List, ap, subst, take}
use Rattle.wsm_follow.specs.Reads.{EndsAt}
use Rattle.wsm_follow.proofs.Feeds.{ends_at}
use Rattle.wsm_follow.proofs.reading.Reading.last_feed.Goals as goal

pub returns-clause-ends : goal.returns-clause-ends
returns-clause-ends c =
    let bytes = c.as_slice-bytes.result.now in
    let same : take c.args.count bytes ≡ take c.args.count c.args.self.now.room.items = ap (λ (xs : List ℕ). take c.args.count xs) c.as_slice-bytes.ensures.value in
    subst (λ (xs : List ℕ). EndsAt xs c.memrchr.result) same (ends_at (take c.args.count bytes) c.memrchr.result c.memrchr.ensures)
