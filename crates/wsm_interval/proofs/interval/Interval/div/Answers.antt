use Rattle.std.proofs.Common.{rules, SFits, w64, sym, ◌∙◌, pos}
use Rattle.wsm_interval.specs.Interval.{holds}
use Rattle.wsm_interval.proofs.SoundOperations.{div_holds}
use Rattle.wsm_interval.proofs.Wide.{around_is, quotient_seen, some_of, unless}
use Rattle.wsm_interval.proofs.interval.Interval.div.Goals as goal

pub returns-clause-formula : goal.returns-clause-formula
returns-clause-formula c =
    let a : SFits w64 c.args.self.lo = search rules in
    let b : SFits w64 c.args.self.hi = search rules in
    let d : SFits w64 c.args.other.lo = search rules in
    let e : SFits w64 c.args.other.hi = search rules in
    let ac = quotient_seen _ _ _ _ _ c.quotient.ensures c.ends-a.ensures.low c.ends-c.ensures.low a d in
    let ad = quotient_seen _ _ _ _ _ c.quotient-2.ensures c.ends-a.ensures.low c.ends-c.ensures.high a e in
    let bc = quotient_seen _ _ _ _ _ c.quotient-3.ensures c.ends-a.ensures.high c.ends-c.ensures.low b d in
    let bd = quotient_seen _ _ _ _ _ c.quotient-4.ensures c.ends-a.ensures.high c.ends-c.ensures.high b e in
    unless (holds c.args.other (pos 0)) _ _ (sym c.holds.ensures ∙ c.if-holds.false) (around_is _ _ _ _ _ _ _ _ _ c.around.ensures ac ad bc bd)

pub returns-clause-quotients : goal.returns-clause-quotients
returns-clause-quotients c = λ m n h k. some_of _ _ _ (returns-clause-formula c) (div_holds c.args.self c.args.other m n h k)
