use Rattle.std.proofs.Common.{rules, SFits, w64}
use Rattle.wsm_interval.proofs.SoundOperations.{sub_holds}
use Rattle.wsm_interval.proofs.Wide.{within_is, difference_is, some_of}
use Rattle.wsm_interval.proofs.interval.Interval.sub.Goals as goal

pub returns-clause-formula : goal.returns-clause-formula
returns-clause-formula c =
    let a : SFits w64 c.args.self.lo = search rules in
    let b : SFits w64 c.args.self.hi = search rules in
    let d : SFits w64 c.args.other.lo = search rules in
    let e : SFits w64 c.args.other.hi = search rules in
    within_is _ _ _ _ _ c.within.ensures (difference_is _ _ _ _ c.ends-a.ensures.low c.ends-c.ensures.high a e) (difference_is _ _ _ _ c.ends-a.ensures.high c.ends-c.ensures.low b d)

pub returns-clause-differences : goal.returns-clause-differences
returns-clause-differences c = λ m n h k. some_of _ _ _ (returns-clause-formula c) (sub_holds c.args.self c.args.other m n h k)
