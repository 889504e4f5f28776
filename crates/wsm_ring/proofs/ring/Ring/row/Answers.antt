use Rattle.std.proofs.Common.{◌≡◌, pos, to_z, w64, SFits, rules, refl, arith}
use Rattle.std.specs.Int.{int_rem_euclid, int_div_euclid}
use Rattle.std.proofs.lemmas.Int.{to_z-of_z, to_z_pos}
use Rattle.wsm_ring.proofs.Rings.{row_within}
use Rattle.wsm_ring.proofs.ring.Ring.row.Goals as goal

pub returns-clause-row : goal.returns-clause-row
returns-clause-row c =
    let start : SFits w64 c.args.start = c.ranges.start in
    let period : SFits w64 c.args.self.period = search rules in
    let number : SFits w64 c.div_euclid-number.result = search rules in
    let rem : SFits w64 c.rem_euclid.result = search rules in
    let div : c.div_euclid-number.result ≡ int_div_euclid c.args.start c.args.self.period = simp to_z-of_z at c.div_euclid-number.ensures in
    let value : c.rem_euclid.result ≡ int_rem_euclid c.div_euclid-number.result (to_z w64 c.args.self.bound) = simp to_z-of_z at c.rem_euclid.ensures.value in
    let bound : to_z w64 c.args.self.bound ≡ pos c.args.self.bound = to_z_pos w64 c.args.self.bound (omega (arith, c.requires.windows)) in
    simp to_z-of_z (rw (value, div, bound) refl)

pub returns-clause-within : goal.returns-clause-within
returns-clause-within c = rw (returns-clause-row c) (row_within c.args.self c.args.start c.requires)
