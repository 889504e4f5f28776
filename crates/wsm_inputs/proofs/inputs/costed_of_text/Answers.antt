use Rattle.std.proofs.Common.{◌∙◌, Ok, ap, sym}
use Rattle.std.proofs.lemmas.Result.{err_from_is_err_and}
use Rattle.wsm_inputs.specs.Judged.{compiled, text_judged}
use Rattle.wsm_inputs.proofs.Judgements.{compiled_ends}
use Rattle.wsm_inputs.proofs.inputs.costed_of_text.Goals as goal

pub returns-in_err-checked-clause-refused : goal.returns-in_err-checked-clause-refused
returns-in_err-checked-clause-refused c =
    let e = err_from_is_err_and c.from_residual.result c.from_residual.ensures.1 in
    rw (e.1, e.2) (compiled_ends (text_judged c.args.text.now) c.in_err-checked.field-0.0 c.in_err-checked.ensures.refused)

pub returns-clause-compiled : goal.returns-clause-compiled
returns-clause-compiled c =
    let (q, judged, parts) = c.in_ok-checked.ensures.checked in
    ap compiled judged ∙ ap Ok (sym (c.in_ok-compile_costed.ensures q parts))
