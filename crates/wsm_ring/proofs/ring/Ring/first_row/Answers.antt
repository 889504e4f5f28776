use Rattle.std.proofs.Common.{SFits, w64, ◌+ℤ◌, ◌-ℤ◌, ◌<ℤ◌, ◌≤ℤ◌, rules, arith}
use Rattle.std.proofs.lemmas.Int.{ints, to_z-of_z}
use Rattle.wsm_ring.proofs.Rings.{between_fits}
use Rattle.wsm_ring.proofs.Rows.{near_first}
use Rattle.wsm_ring.proofs.ring.Ring.first_row.Goals as goal

pub row_past-requires-clause-next : goal.row_past-requires-clause-next
row_past-requires-clause-next c =
    let time : SFits w64 c.args.time = c.ranges.time in
    let size : SFits w64 c.args.self.size = search rules in
    let before : SFits w64 (c.args.time -ℤ c.args.self.size) = search rules in
    simp to_z-of_z (between_fits (c.args.time -ℤ c.args.self.size) ((c.args.time -ℤ c.args.self.size) +ℤ c.args.self.period) c.args.time before time (omega (arith, ints, c.requires.ring.period_low)) (omega (arith, ints, c.requires.ring.period_high)))

pub returns-clause-start : goal.returns-clause-start
returns-clause-start c =
    let time : SFits w64 c.args.time = c.ranges.time in
    let size : SFits w64 c.args.self.size = search rules in
    let before : SFits w64 (c.args.time -ℤ c.args.self.size) = search rules in
    let past : (c.args.time -ℤ c.args.self.size) <ℤ c.row_past.result.start = simp to_z-of_z at c.row_past.ensures.past in
    let close : c.row_past.result.start ≤ℤ ((c.args.time -ℤ c.args.self.size) +ℤ c.args.self.period) = simp to_z-of_z at c.row_past.ensures.close in
    near_first c.args.self.size c.args.self.period c.args.time c.row_past.ensures.row.grid.0 c.row_past.result.start c.requires.ring.period_low c.row_past.ensures.row.grid.1 past close
