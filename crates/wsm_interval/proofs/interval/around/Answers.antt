use Rattle.std.proofs.Common.{SFits}
use Rattle.std.specs.Int.{w128}
use Rattle.std.proofs.lemmas.Int.{to_z-of_z}
use Rattle.wsm_interval.proofs.Wide.{min_is, max_is, wide_is, within_is}
use Rattle.wsm_interval.proofs.interval.around.Goals as goal

pub returns : goal.returns
returns c =
    let p = to_z-of_z w128 c.args.p c.ranges.p in
    let q = to_z-of_z w128 c.args.q c.ranges.q in
    let r = to_z-of_z w128 c.args.r c.ranges.r in
    let s = to_z-of_z w128 c.args.s c.ranges.s in
    let least_two = min_is _ _ _ _ _ c.min.ensures.value p q in
    let other_least = min_is _ _ _ _ _ c.min-2.ensures.value r s in
    let greatest_two = max_is _ _ _ _ _ c.max.ensures.value p q in
    let other_greatest = max_is _ _ _ _ _ c.max-2.ensures.value r s in
    let a : SFits w128 c.min.result = record { sfits = c.min.type_inv } in
    let b : SFits w128 c.min-2.result = record { sfits = c.min-2.type_inv } in
    let d : SFits w128 c.max.result = record { sfits = c.max.type_inv } in
    let e : SFits w128 c.max-2.result = record { sfits = c.max-2.type_inv } in
    let f : SFits w128 c.min-3.result = record { sfits = c.min-3.type_inv } in
    let g : SFits w128 c.max-3.result = record { sfits = c.max-3.type_inv } in
    let least = min_is _ _ _ _ _ c.min-3.ensures.value (wide_is _ _ a least_two) (wide_is _ _ b other_least) in
    let greatest = max_is _ _ _ _ _ c.max-3.ensures.value (wide_is _ _ d greatest_two) (wide_is _ _ e other_greatest) in
    within_is _ _ _ _ _ c.within.ensures (wide_is _ _ f least) (wide_is _ _ g greatest)
