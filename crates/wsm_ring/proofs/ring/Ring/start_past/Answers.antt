use Rattle.std.proofs.Common.{◌≡◌, ℤ, pos, SFits, w64, ◌+ℤ◌, ◌-ℤ◌, rules, ap, arith}
use Rattle.std.specs.Int.{int_rem_euclid}
use Rattle.std.proofs.lemmas.Int.{ints, to_z-of_z}
use Rattle.wsm_ring.specs.Ring.{IsNextOnGrid}
use Rattle.wsm_ring.proofs.Rings.{behind_on_grid, between_fits}
use Rattle.wsm_ring.proofs.ring.Ring.start_past.Goals as goal

pub overflow_add-result : goal.overflow_add-result
overflow_add-result c =
    let time : SFits w64 c.args.time = c.ranges.time in
    let period : SFits w64 c.args.self.period = search rules in
    let rem : SFits w64 c.rem_euclid.result = search rules in
    let value : c.rem_euclid.result ≡ int_rem_euclid c.args.time c.args.self.period = simp to_z-of_z at c.rem_euclid.ensures.value in
    let next = c.args.time +ℤ (c.args.self.period -ℤ c.rem_euclid.result) in
    let is : IsNextOnGrid c.args.self.period c.args.time next = behind_on_grid c.args.self.period c.args.time next c.requires.ring.period_low (ap (λ (r : ℤ). c.args.time +ℤ (c.args.self.period -ℤ r)) value) in
    let diff : SFits w64 (c.args.self.period -ℤ c.rem_euclid.result) = between_fits (pos 0) (c.args.self.period -ℤ c.rem_euclid.result) c.args.self.period (search rules) period (omega (arith, ints, is.behind)) (omega (arith, ints, is.near)) in
    simp to_z-of_z (between_fits c.args.time next (c.args.time +ℤ c.args.self.period) time c.requires.next (omega (arith, ints, is.behind)) is.near)

pub returns : goal.returns
returns c =
    let time : SFits w64 c.args.time = c.ranges.time in
    let period : SFits w64 c.args.self.period = search rules in
    let rem : SFits w64 c.rem_euclid.result = search rules in
    let value : c.rem_euclid.result ≡ int_rem_euclid c.args.time c.args.self.period = simp to_z-of_z at c.rem_euclid.ensures.value in
    let next = c.args.time +ℤ (c.args.self.period -ℤ c.rem_euclid.result) in
    let is : IsNextOnGrid c.args.self.period c.args.time next = behind_on_grid c.args.self.period c.args.time next c.requires.ring.period_low (ap (λ (r : ℤ). c.args.time +ℤ (c.args.self.period -ℤ r)) value) in
    let diff : SFits w64 (c.args.self.period -ℤ c.rem_euclid.result) = between_fits (pos 0) (c.args.self.period -ℤ c.rem_euclid.result) c.args.self.period (search rules) period (omega (arith, ints, is.behind)) (omega (arith, ints, is.near)) in
    let fits : SFits w64 next = between_fits c.args.time next (c.args.time +ℤ c.args.self.period) time c.requires.next (omega (arith, ints, is.behind)) is.near in
    simp to_z-of_z is
