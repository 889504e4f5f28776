use Rattle.std.proofs.Common.{arith, ap, ◌∙◌, ◌<◌, length, length-take-le, w64}
use Rattle.std.proofs.lemmas.Int.{to_z-of_z}
use Rattle.std.specs.Prelude.{slice_set}
use Rattle.std.proofs.Math.Seq.{take-set-lt}
use Rattle.wsm_admission.proofs.marks.Marks.set.Goals as goal

pub returns : goal.returns
returns c =
    let n = c.self.inside.count in
    let all = c.self.inside.marks in
    let within : c.from.result < n = omega (arith, c.from.ensures, c.requires, ap length c.self.view_is, length-take-le n all (omega (arith, c.self.invariant.1, c.self.told))) in
    take-set-lt n all c.from.result _ within ∙ (λ i. slice_set (c.self.view_is i) (c.from.ensures i) (to_z-of_z w64 c.args.mark c.ranges.mark i))
