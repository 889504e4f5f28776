use Rattle.std.proofs.Common.{rules, SFits, ◌≡◌, to_z, of_z, w64}
use Rattle.std.proofs.lemmas.Int.{to_z-of_z}
use Rattle.wsm_windows.specs.Windows.{first_start}
use Rattle.wsm_windows.proofs.LiveWindows.{past_fields}
use Rattle.wsm_windows.proofs.assignment.ending_past.Goals as goal

pub returns : goal.returns
returns c =
    let size = to_z-of_z w64 c.args.size c.ranges.size in
    let period = to_z-of_z w64 c.args.period c.ranges.period in
    let time = to_z-of_z w64 c.args.time c.ranges.time in
    let past = to_z-of_z w64 c.args.past c.ranges.past in
    let start : SFits w64 c.first_start.result = search rules in
    let first : c.first_start.result ≡ first_start c.args.size c.args.period c.args.past = rw (size, period, past) at c.first_start.ensures.start in
    past_fields c.args.size c.args.period c.args.time c.args.past c.first_start.result (to_z w64 (of_z w64 c.first_start.result)) (to_z w64 (of_z w64 c.args.size)) (to_z w64 (of_z w64 c.args.period)) (to_z w64 (of_z w64 c.args.time)) c.requires.period_low c.requires.period_high c.requires.after first (to_z-of_z w64 c.first_start.result start) size period time
