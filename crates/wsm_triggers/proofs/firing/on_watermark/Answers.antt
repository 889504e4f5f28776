use Rattle.std.proofs.Common.{◌+ℤ◌, cond, Some, None, sym, ◌∙◌, rules, SFits, w64, to_z-of_z}
use Rattle.wsm_windows.specs.declared.window.PaneKind.TheVariants.{OnTime, Final}
use Rattle.wsm_triggers.proofs.Decided.{kind_is}
use Rattle.wsm_triggers.proofs.firing.on_watermark.Goals as goal

pub returns-then-comes_with-2 : goal.returns-then-comes_with-2
returns-then-comes_with-2 c q place all missed e a m =
    let old : SFits w64 c.args.old = c.ranges.old in
    let new : SFits w64 c.args.new = c.ranges.new in
    let end : SFits w64 c.args.end = c.ranges.end in
    let lateness : SFits w64 c.args.lateness = c.ranges.lateness in
    let expiry : SFits w64 (c.args.end +ℤ c.args.lateness) = search rules in
    let first = sym (simp (to_z-of_z, c.computed_over.ensures) at c.comes_with.ensures) ∙ c.if-comes_with.false in
    let second = sym (simp to_z-of_z at c.comes_with-else-comes_with.ensures) ∙ c.if-comes_with-2.true in
    sym (
    kind_is q place all missed c.args.mode c.args.lateness c.args.end c.args.old c.args.new c.args.count c.args.unshown e a m
    ∙ λ i. cond (first i) (Some OnTime) (cond (second i) (Some Final) None)
    )

pub returns-else-comes_with-2 : goal.returns-else-comes_with-2
returns-else-comes_with-2 c q place all missed e a m =
    let old : SFits w64 c.args.old = c.ranges.old in
    let new : SFits w64 c.args.new = c.ranges.new in
    let end : SFits w64 c.args.end = c.ranges.end in
    let lateness : SFits w64 c.args.lateness = c.ranges.lateness in
    let expiry : SFits w64 (c.args.end +ℤ c.args.lateness) = search rules in
    let first = sym (simp (to_z-of_z, c.computed_over.ensures) at c.comes_with.ensures) ∙ c.if-comes_with.false in
    let second = sym (simp to_z-of_z at c.comes_with-else-comes_with.ensures) ∙ c.if-comes_with-2.false in
    sym (
    kind_is q place all missed c.args.mode c.args.lateness c.args.end c.args.old c.args.new c.args.count c.args.unshown e a m
    ∙ λ i. cond (first i) (Some OnTime) (cond (second i) (Some Final) None)
    )
