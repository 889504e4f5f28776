use Rattle.std.proofs.Common.{rules, SFits, w64}
use Rattle.wsm_interval.proofs.SoundOperations.{mul_holds}
use Rattle.wsm_interval.proofs.Wide.{around_is, product_is, some_of}
use Rattle.wsm_interval.proofs.interval.Interval.mul.Goals as goal

pub returns-clause-formula : goal.returns-clause-formula
returns-clause-formula c =
    let a : SFits w64 c.args.self.lo = search rules in
    let b : SFits w64 c.args.self.hi = search rules in
    let d : SFits w64 c.args.other.lo = search rules in
    let e : SFits w64 c.args.other.hi = search rules in
    around_is _ _ _ _ _ _ _ _ _ c.around.ensures
    (product_is _ _ _ _ c.ends-a.ensures.low c.ends-c.ensures.low a d) (product_is _ _ _ _ c.ends-a.ensures.low c.ends-c.ensures.high a e)
    (product_is _ _ _ _ c.ends-a.ensures.high c.ends-c.ensures.low b d) (product_is _ _ _ _ c.ends-a.ensures.high c.ends-c.ensures.high b e)

pub returns-clause-products : goal.returns-clause-products
returns-clause-products c = λ m n h k. some_of _ _ _ (returns-clause-formula c) (mul_holds c.args.self c.args.other m n h k)
