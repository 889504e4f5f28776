use Rattle.std.proofs.Common.{rules, arith, ◌-ℤ◌, w64, SFits}
use Rattle.std.proofs.lemmas.Int.{ints, to_z-of_z}
use Rattle.wsm_keep.proofs.cut.first_start.Goals as goal

pub returns : goal.returns
returns c =
    let time : SFits w64 c.args.time = c.ranges.time in
    let size : SFits w64 c.args.size = c.ranges.size in
    let period : SFits w64 c.args.period = c.ranges.period in
    let before : SFits w64 (c.args.time -ℤ c.args.size) = search rules in
    let value = simp to_z-of_z at c.rem_euclid.ensures.value in
    omega (arith, ints, value)
