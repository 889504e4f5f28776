use Rattle.std.proofs.Common.{◌≡◌, SFits, w64, to_z, of_z, rules, ◌+ℤ◌, ◌≤ℤ◌, arith}
use Rattle.std.proofs.lemmas.Int.{ints, to_z-of_z}
use Rattle.wsm_windows.specs.Windows.{greatest_span, greatest_time}
use Rattle.wsm_ring.specs.Ring.{IsAlone, IsRing}
use Rattle.wsm_ring.proofs.Rings.{between_fits}
use Rattle.wsm_ring.proofs.Rows.{alone_on}
use Rattle.wsm_ring.proofs.ring_table.RingTable.only_row.Goals as goal
use Rattle.wsm_ring.proofs.ring_table.RingTable.only_row.Goals.{Then-is_alone}

alone : (c : Then-is_alone) → IsAlone c.self.inside.ring c.self.inside.row.start c.args.time c.args.past
alone c =
    let z : to_z w64 (of_z w64 c.args.time) ≡ c.args.time = to_z-of_z w64 c.args.time c.ranges.time in
    let y : to_z w64 (of_z w64 c.args.past) ≡ c.args.past = to_z-of_z w64 c.args.past c.ranges.past in
    rw (z, y) at (c.is_alone.ensures c.if-is_alone.true)

pub returns-then-is_alone-clause-only : goal.returns-then-is_alone-clause-only
returns-then-is_alone-clause-only c =
    let a = c.self.inside in
    rw (← c.self.view_is) (alone_on a.ring a.row.start c.args.time c.args.past c.self.invariant.ring c.self.invariant.row.grid c.requires.after (alone (goal.at.returns-then-is_alone-clause-only c).Then-is_alone))

pub returns-then-is_alone-clause-end : goal.returns-then-is_alone-clause-end
returns-then-is_alone-clause-end c =
    let a = c.self.inside in
    let start : SFits w64 a.row.start = search rules in
    let is = alone (goal.at.returns-then-is_alone-clause-end c).Then-is_alone in
    let ring : IsRing a.ring = c.self.invariant.ring in
    let timely : c.args.time ≤ℤ greatest_time = c.requires.time.high in
    let few : a.ring.size ≤ℤ greatest_span = rw (← c.self.view_is) at c.requires.size in
    rw (← c.self.view_is) (between_fits a.row.start (a.row.start +ℤ a.ring.size) (greatest_time +ℤ greatest_span) start (search rules) (omega (arith, ints, ring.period_low, ring.period_high)) (omega (arith, ints, is.inside, timely, few)))
