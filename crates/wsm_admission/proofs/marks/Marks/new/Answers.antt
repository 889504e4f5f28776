use Rattle.std.proofs.Common.{ap, ◌∙◌, take, replicate}
use Rattle.std.proofs.lemmas.Int.{to_z-of_z}
use Rattle.std.proofs.lemmas.List.{take-replicate}
use Rattle.wsm_admission.proofs.marks.Marks.new.Goals as goal

pub returns : goal.returns
returns c = ap (λ m. take c.args.count (replicate 16 m)) (to_z-of_z _ c.args.mark c.ranges.mark) ∙ take-replicate c.args.count 16 c.args.mark c.requires.few
