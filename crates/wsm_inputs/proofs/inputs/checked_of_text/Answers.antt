use Rattle.std.proofs.lemmas.Result.{err_from_is_err_and}
use Rattle.wsm_query.specs.Seen.{seen}
use Rattle.wsm_inputs.proofs.Judgements.{text_ends, check_ends, text_passes}
use Rattle.wsm_inputs.proofs.inputs.checked_of_text.Goals as goal

pub returns-in_err-query-clause-refused : goal.returns-in_err-query-clause-refused
returns-in_err-query-clause-refused c =
    let p = err_from_is_err_and c.from_residual.result c.from_residual.ensures.1 in
    rw (p.1, p.2) (text_ends c.args.text.now c.in_err-query.field-0.0 c.in_err-query.ensures.reads)

pub returns-in_err-checked_of-clause-refused : goal.returns-in_err-checked_of-clause-refused
returns-in_err-checked_of-clause-refused c =
    let p = err_from_is_err_and c.from_residual-in_err-checked_of.result c.from_residual-in_err-checked_of.ensures.1 in
    rw (p.1, p.2) (check_ends c.args.text.now (seen c.in_ok-query.query) c.in_err-checked_of.field-0.0 c.in_ok-query.ensures.reads c.in_err-checked_of.ensures.refused)

pub returns-clause-checked : goal.returns-clause-checked
returns-clause-checked c =
    let q = seen c.in_ok-query.query in
    let checks = c.in_ok-checked_of.ensures in
    (q, text_passes c.args.text.now q c.in_ok-query.ensures.reads checks.checked, checks.parts)
