use Rattle.std.proofs.Common.{◌∙◌, ap₂, pos, ◌+ℤ◌, ◌-ℤ◌, FitsSigned, arith}
use Rattle.std.specs.Int.{w128}
use Rattle.std.proofs.lemmas.Int.{ints, to_z-of_z}
use Rattle.wsm_values.specs.Clock.{chosen}
use Rattle.wsm_values.proofs.clock.instant_at.Goals as goal

pub returns : goal.returns
returns c =
    let here : FitsSigned w128 c.args.local = c.ranges.local in
    let early : FitsSigned w128 (c.args.local -ℤ pos 86400000000000) = omega (arith, ints, c.requires) in
    let late : FitsSigned w128 (c.args.local +ℤ pos 86400000000000) = omega (arith, ints, c.requires) in
    let before = simp to_z-of_z at c.candidate-before.ensures in
    let behind = simp to_z-of_z at c.candidate-behind.ensures in
    c.chosen.ensures ∙ ap₂ (chosen c.args.fold) before behind
