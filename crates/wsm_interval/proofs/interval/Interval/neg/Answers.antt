use Rattle.std.proofs.Common.{rules, SFits, w64}
use Rattle.wsm_interval.proofs.SoundOperations.{neg_holds}
use Rattle.wsm_interval.proofs.Wide.{within_is, negation_is, some_of}
use Rattle.wsm_interval.proofs.interval.Interval.neg.Goals as goal

pub returns-clause-formula : goal.returns-clause-formula
returns-clause-formula c =
    let a : SFits w64 c.args.self.lo = search rules in
    let b : SFits w64 c.args.self.hi = search rules in
    within_is _ _ _ _ _ c.within.ensures (negation_is _ _ c.ends-a.ensures.high b) (negation_is _ _ c.ends-a.ensures.low a)

pub returns-clause-negations : goal.returns-clause-negations
returns-clause-negations c = λ m h. some_of _ _ _ (returns-clause-formula c) (neg_holds c.args.self m h)
