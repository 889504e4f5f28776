use Rattle.std.proofs.Common.{rules, ◌≡◌, [], sym, subst, ◌∙◌, replicate, SFits, to_z, of_z, w64}
use Rattle.std.proofs.lemmas.Int.{to_z-of_z}
use Rattle.wsm_admission.specs.Admission.{Fits, IsInRange, opened}
use Rattle.wsm_admission.proofs.FittedHistory.{opened_fits, opened_range}
use Rattle.wsm_admission.proofs.admission.Admission.new.Goals as goal
use Rattle.wsm_admission.proofs.admission.Admission.new.Goals.{After-struct_told-2-1}

is : (c : After-struct_told-2-1) → opened c.args.clock c.args.schema.now ≡ record { clock = c.args.clock; marks = c.new.result; mark = to_z w64 (of_z w64 c.args.clock.start); admitted = 0; late = 0; refused = 0 }
is c =
    let start : SFits w64 c.args.clock.start = search rules in
    let same = to_z-of_z w64 c.args.clock.start start in
    λ i. record { clock = c.args.clock; marks = sym (c.new.ensures ∙ (λ i. replicate (c.source_count.ensures.count i) (same i))) i; mark = sym same i; admitted = 0; late = 0; refused = 0 }

pub invariant_of-result : goal.invariant_of-result
invariant_of-result c = subst IsInRange (is c) (opened_range c.args.clock c.args.schema.now c.requires)

pub returns-clause-fits : goal.returns-clause-fits
returns-clause-fits c = λ shape. subst (λ s. Fits shape c.args.schema.now s []) (is c) (opened_fits c.args.clock shape c.args.schema.now)
