use Rattle.std.proofs.Common.{rules, arith, ap, SFits, w64}
use Rattle.std.proofs.lemmas.Int.{ints, to_z-of_z}
use Rattle.wsm_windows.specs.Windows.{size_of, windows_of_shape}
use Rattle.wsm_windows.proofs.LiveWindows.{are_live, exactly_live, rising_live}
use Rattle.wsm_windows.proofs.assignment.live_windows_of.Goals as goal

pub returns-in-Fixed-clause-list : goal.returns-in-Fixed-clause-list
returns-in-Fixed-clause-list c =
    let size = ap size_of c.in-Fixed.is in
    let past : SFits w64 c.live_past-past.result = search rules in
    let size_fits : SFits w64 c.in-Fixed.size = search rules in
    let live = rw (to_z-of_z w64 c.args.time c.ranges.time, to_z-of_z w64 c.args.lateness c.ranges.lateness, to_z-of_z w64 c.args.mark c.ranges.mark) at c.live_past-past.ensures.live in
    are_live c.args.shape c.in-Fixed.size c.in-Fixed.size c.args.time c.args.lateness c.args.mark c.live_past-past.result (ap (λ s. windows_of_shape s c.args.time) c.in-Fixed.is)
    (live c.in-Fixed.size c.in-Fixed.size (omega (arith, ints, size, c.requires.shape.period_low, c.requires.shape.period_high)) (omega (arith, ints, size, c.requires.shape.size_high)))
    c.ending_past.result (rw (to_z-of_z w64 c.live_past-past.result past, to_z-of_z w64 c.in-Fixed.size size_fits, to_z-of_z w64 c.args.time c.ranges.time) at c.ending_past.ensures)

pub returns-in-Fixed-clause-each : goal.returns-in-Fixed-clause-each
returns-in-Fixed-clause-each c = exactly_live c.args.shape c.args.time c.args.lateness c.args.mark c.ending_past.result c.requires.shape (returns-in-Fixed-clause-list c)

pub returns-in-Fixed-clause-rising : goal.returns-in-Fixed-clause-rising
returns-in-Fixed-clause-rising c = rising_live c.args.shape c.args.time c.args.lateness c.args.mark c.ending_past.result c.requires.shape (returns-in-Fixed-clause-list c)

pub returns-in-Sliding-clause-list : goal.returns-in-Sliding-clause-list
returns-in-Sliding-clause-list c =
    let size = ap size_of c.in-Sliding.is in
    let past : SFits w64 c.live_past-past.result = search rules in
    let size_fits : SFits w64 c.in-Sliding.size = search rules in
    let period_fits : SFits w64 c.in-Sliding.period = search rules in
    let live = rw (to_z-of_z w64 c.args.time c.ranges.time, to_z-of_z w64 c.args.lateness c.ranges.lateness, to_z-of_z w64 c.args.mark c.ranges.mark) at c.live_past-past.ensures.live in
    are_live c.args.shape c.in-Sliding.size c.in-Sliding.period c.args.time c.args.lateness c.args.mark c.live_past-past.result (ap (λ s. windows_of_shape s c.args.time) c.in-Sliding.is)
    (live c.in-Sliding.size c.in-Sliding.period (omega (arith, ints, size, c.requires.shape.period_low, c.requires.shape.period_high)) (omega (arith, ints, size, c.requires.shape.size_high)))
    c.ending_past-in-Sliding.result (rw (to_z-of_z w64 c.live_past-past.result past, to_z-of_z w64 c.in-Sliding.size size_fits, to_z-of_z w64 c.in-Sliding.period period_fits, to_z-of_z w64 c.args.time c.ranges.time) at c.ending_past-in-Sliding.ensures)

pub returns-in-Sliding-clause-each : goal.returns-in-Sliding-clause-each
returns-in-Sliding-clause-each c = exactly_live c.args.shape c.args.time c.args.lateness c.args.mark c.ending_past-in-Sliding.result c.requires.shape (returns-in-Sliding-clause-list c)

pub returns-in-Sliding-clause-rising : goal.returns-in-Sliding-clause-rising
returns-in-Sliding-clause-rising c = rising_live c.args.shape c.args.time c.args.lateness c.args.mark c.ending_past-in-Sliding.result c.requires.shape (returns-in-Sliding-clause-list c)

pub returns-in-Session-clause-each : goal.returns-in-Session-clause-each
returns-in-Session-clause-each c = absurd (c.requires.grid c.in-Session.gap c.in-Session.is)
