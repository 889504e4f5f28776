use Rattle.std.proofs.Common.{rules, arith, sym, ◌∙◌, refl, SFits, w64, pos}
use Rattle.std.specs.Int.{w128}
use Rattle.std.proofs.lemmas.Int.{ints}
use Rattle.wsm_interval.specs.Interval.{holds}
use Rattle.wsm_interval.proofs.SoundOperations.{rem_holds}
use Rattle.wsm_interval.proofs.Wide.{less_one, less_one_negated, unless, within_is, min_is, some_of, abs_is, end_is, max_is, wide_is, most_fits}
use Rattle.wsm_interval.proofs.interval.Interval.rem.Goals as goal

pub overflow_sub-most-2 : goal.overflow_sub-most-2
overflow_sub-most-2 c =
    let d : SFits w64 c.args.other.lo = search rules in
    let e : SFits w64 c.args.other.hi = search rules in
    let low = abs_is _ _ _ c.abs.ensures.value (end_is _ _ d c.ends-c.ensures.low) in
    let high = abs_is _ _ _ c.abs-2.ensures.value (end_is _ _ e c.ends-c.ensures.high) in
    let f : SFits w128 c.abs.result = record { sfits = c.abs.type_inv } in
    let g : SFits w128 c.abs-2.result = record { sfits = c.abs-2.type_inv } in
    let most = max_is _ _ _ _ _ c.max-most.ensures.value (wide_is _ _ f low) (wide_is _ _ g high) in
    omega (arith, ints, most_fits _ _ _ d e most)

pub returns-clause-formula : goal.returns-clause-formula
returns-clause-formula c =
    let a : SFits w64 c.args.self.lo = search rules in
    let b : SFits w64 c.args.self.hi = search rules in
    let d : SFits w64 c.args.other.lo = search rules in
    let e : SFits w64 c.args.other.hi = search rules in
    let low = abs_is _ _ _ c.abs.ensures.value (end_is _ _ d c.ends-c.ensures.low) in
    let high = abs_is _ _ _ c.abs-2.ensures.value (end_is _ _ e c.ends-c.ensures.high) in
    let f : SFits w128 c.abs.result = record { sfits = c.abs.type_inv } in
    let g : SFits w128 c.abs-2.result = record { sfits = c.abs-2.type_inv } in
    let most = max_is _ _ _ _ _ c.max-most.ensures.value (wide_is _ _ f low) (wide_is _ _ g high) in
    let fits = most_fits _ _ _ d e most in
    let i : SFits w128 c.min.result = record { sfits = c.min.type_inv } in
    let j : SFits w128 c.max-2.result = record { sfits = c.max-2.type_inv } in
    let k : SFits w128 c.max.result = record { sfits = c.max.type_inv } in
    let l : SFits w128 c.min-2.result = record { sfits = c.min-2.type_inv } in
    let below = min_is _ _ (pos 0) _ (pos 0) c.min.ensures.value (end_is _ _ a c.ends-a.ensures.low) refl in
    let above = max_is _ _ (pos 0) _ (pos 0) c.max-2.ensures.value (end_is _ _ b c.ends-a.ensures.high) refl in
    let lo = max_is _ _ _ _ _ c.max.ensures.value (less_one_negated _ _ fits most) (wide_is _ _ i below) in
    let hi = min_is _ _ _ _ _ c.min-2.ensures.value (less_one _ _ fits most) (wide_is _ _ j above) in
    unless (holds c.args.other (pos 0)) _ _ (sym c.holds.ensures ∙ c.if-holds.false) (within_is _ _ _ _ _ c.within.ensures (wide_is _ _ k lo) (wide_is _ _ l hi))

pub returns-clause-remainders : goal.returns-clause-remainders
returns-clause-remainders c = λ m n h k. some_of _ _ _ (returns-clause-formula c) (rem_holds c.args.self c.args.other m n h k)
