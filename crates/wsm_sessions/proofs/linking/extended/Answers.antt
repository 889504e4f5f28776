use Rattle.std.proofs.Common.{◌+ℤ◌, rules, SFits, w64, to_z-of_z}
use Rattle.wsm_windows.specs.Windows.{window}
use Rattle.wsm_sessions.proofs.linking.extended.Goals as goal

pub returns : goal.returns
returns c =
    let time : SFits w64 c.args.time = c.ranges.time in
    let gap : SFits w64 c.args.gap = c.ranges.gap in
    let reach : SFits w64 (c.args.time +ℤ c.args.gap) = search rules in
    let first : SFits w64 c.args.session.start = search rules in
    let last : SFits w64 c.args.session.end = search rules in
    let least : SFits w64 c.min.result = record { sfits = c.min.type_inv } in
    let greatest : SFits w64 c.max.result = record { sfits = c.max.type_inv } in
    let start = simp to_z-of_z at c.min.ensures.value in
    let end = simp to_z-of_z at c.max.ensures.value in
    simp to_z-of_z (λ i. window (start i) (end i))
