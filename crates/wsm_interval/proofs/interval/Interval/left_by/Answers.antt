use Rattle.std.proofs.Common.{rules, SFits, w64}
use Rattle.std.specs.Int.{w128}
use Rattle.std.proofs.lemmas.Int.{to_z-of_z}
use Rattle.wsm_interval.proofs.Wide.{part_is, above_is, below_is, end_is, wide_is, one_less, one_more}
use Rattle.wsm_interval.proofs.interval.Interval.left_by.Goals as goal

pub returns-in-Ne : goal.returns-in-Ne
returns-in-Ne c =
    let a : SFits w64 c.args.self.lo = search rules in
    let b : SFits w64 c.args.self.hi = search rules in
    let f : SFits w128 c.above.result = record { sfits = c.above.type_inv } in
    let g : SFits w128 c.below.result = record { sfits = c.below.type_inv } in
    let d = to_z-of_z w128 c.args.c c.ranges.c in
    rw c.in-Ne.is (part_is _ _ _ _ _ _ c.part-in-Ne.ensures
    (wide_is _ _ f (above_is _ _ _ _ _ c.above.ensures (end_is _ _ a c.ends-lo.ensures.low) d))
    (wide_is _ _ g (below_is _ _ _ _ _ c.below.ensures (end_is _ _ b c.ends-lo.ensures.high) d)))

pub returns-in-Lt : goal.returns-in-Lt
returns-in-Lt c =
    let a : SFits w64 c.args.self.lo = search rules in
    rw c.in-Lt.is (part_is _ _ _ _ _ _ c.part-in-Lt.ensures (end_is _ _ a c.ends-lo.ensures.low) (one_less _ _ c.requires (to_z-of_z w128 c.args.c c.ranges.c)))

pub returns-in-Gt : goal.returns-in-Gt
returns-in-Gt c =
    let b : SFits w64 c.args.self.hi = search rules in
    rw c.in-Gt.is (part_is _ _ _ _ _ _ c.part-in-Gt.ensures (one_more _ _ c.requires (to_z-of_z w128 c.args.c c.ranges.c)) (end_is _ _ b c.ends-lo.ensures.high))
