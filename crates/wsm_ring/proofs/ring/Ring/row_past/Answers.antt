use Rattle.std.proofs.Common.{SFits, w64, ◌+ℤ◌, ◌-ℤ◌, ◌<ℤ◌, rules, arith}
use Rattle.std.proofs.lemmas.Int.{ints, to_z-of_z}
use Rattle.wsm_ring.proofs.Rings.{between_fits, lt_from}
use Rattle.wsm_ring.proofs.ring.Ring.row_past.Goals as goal

pub previous_row-previous-requires-clause-previous :
    goal.previous_row-previous-requires-clause-previous
previous_row-previous-requires-clause-previous c =
    let start : SFits w64 c.args.known.start = search rules in
    let time : SFits w64 c.args.time = c.ranges.time in
    let period : SFits w64 c.args.self.period = search rules in
    let next = c.requires.next in
    let more : (c.args.time +ℤ c.args.self.period) <ℤ c.args.known.start = lt_from _ _ (simp to_z-of_z at c.if-known-time-2.false) in
    between_fits c.args.time (c.args.known.start -ℤ c.args.self.period) c.args.known.start time start (omega (arith, ints, more)) (omega (arith, ints, c.requires.ring.period_low))

pub returns-then-previous-time-clause-past : goal.returns-then-previous-time-clause-past
returns-then-previous-time-clause-past c =
    let start : SFits w64 c.args.known.start = search rules in
    let time : SFits w64 c.args.time = c.ranges.time in
    let period : SFits w64 c.args.self.period = search rules in
    let next = c.requires.next in
    let more : (c.args.time +ℤ c.args.self.period) <ℤ c.args.known.start = lt_from _ _ (simp to_z-of_z at c.if-known-time-2.false) in
    omega (arith, ints, more, c.previous_row-previous.ensures.start)
