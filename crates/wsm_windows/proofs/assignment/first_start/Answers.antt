use Rattle.std.proofs.Common.{rules, arith, ◌-ℤ◌, w64}
use Rattle.std.proofs.lemmas.Int.{ints, to_z-of_z}
use Rattle.std.proofs.Common.{SFits}
use Rattle.wsm_windows.proofs.assignment.first_start.Goals as goal

pub returns-clause-start : goal.returns-clause-start
returns-clause-start c =
    let time : SFits w64 c.args.time = c.ranges.time in
    let size : SFits w64 c.args.size = c.ranges.size in
    let period : SFits w64 c.args.period = c.ranges.period in
    let before : SFits w64 (c.args.time -ℤ c.args.size) = search rules in
    let value = simp to_z-of_z at c.rem_euclid.ensures.value in
    omega (arith, ints, value)

pub returns-clause-after : goal.returns-clause-after
returns-clause-after c = let low = c.rem_euclid.ensures.lower_bound in let high = c.rem_euclid.ensures.upper_bound in omega (arith, ints)

pub returns-clause-near : goal.returns-clause-near
returns-clause-near c = omega (arith, ints)
