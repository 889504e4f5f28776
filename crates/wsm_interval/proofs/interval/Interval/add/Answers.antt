use Rattle.std.proofs.Common.{rules, SFits, w64}
use Rattle.wsm_interval.proofs.SoundOperations.{add_holds}
use Rattle.wsm_interval.proofs.Wide.{within_is, sum_is, some_of}
use Rattle.wsm_interval.proofs.interval.Interval.add.Goals as goal

pub returns-clause-formula : goal.returns-clause-formula
returns-clause-formula c =
    let a : SFits w64 c.args.self.lo = search rules in
    let b : SFits w64 c.args.self.hi = search rules in
    let d : SFits w64 c.args.other.lo = search rules in
    let e : SFits w64 c.args.other.hi = search rules in
    within_is _ _ _ _ _ c.within.ensures (sum_is _ _ _ _ c.ends-a.ensures.low c.ends-c.ensures.low a d) (sum_is _ _ _ _ c.ends-a.ensures.high c.ends-c.ensures.high b e)

pub returns-clause-sums : goal.returns-clause-sums
returns-clause-sums c = λ m n h k. some_of _ _ _ (returns-clause-formula c) (add_holds c.args.self c.args.other m n h k)
