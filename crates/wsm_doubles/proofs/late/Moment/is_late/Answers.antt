use Rattle.std.proofs.Common.{◌∙◌, SFits, ap, of_z, rules, to_z, w64}
use Rattle.std.proofs.lemmas.Int.{to_z-of_z}
use Rattle.std.specs.Int.{w128}
use Rattle.wsm_doubles.specs.Late.{last_end}
use Rattle.wsm_doubles.proofs.LastEnds.{late_by_time, late_by_window}
use Rattle.wsm_doubles.proofs.late.Moment.is_late.Goals as goal

pub returns-then-self : goal.returns-then-self
returns-then-self c =
    let end : SFits w128 c.last_end.result = search rules in
    let bound : SFits w128 c.bound.result = search rules in
    late_by_window c.args.self.now.clock c.args.self.now.shape c.args.self.now.windows c.args.self.now.mark c.args.time _ _ c.if-self.true
    (to_z-of_z w128 c.last_end.result end ∙ c.last_end.ensures ∙ ap (last_end c.args.self.now.shape) (to_z-of_z w64 c.args.time c.ranges.time))
    (to_z-of_z w128 c.bound.result bound ∙ c.bound.ensures)

pub returns-else-self : goal.returns-else-self
returns-else-self c =
    let time : SFits w128 (to_z w64 (of_z w64 c.args.time)) = search rules in
    let bound : SFits w128 c.bound-else-self.result = search rules in
    late_by_time c.args.self.now.clock c.args.self.now.shape c.args.self.now.mark c.args.time _ _ c.if-self.false
    (to_z-of_z w128 (to_z w64 (of_z w64 c.args.time)) time ∙ to_z-of_z w64 c.args.time c.ranges.time)
    (to_z-of_z w128 c.bound-else-self.result bound ∙ c.bound-else-self.ensures)
