use Rattle.std.proofs.Common.{◌∙◌}
use Rattle.std.proofs.lemmas.Result.{err_from_is_err_and}
use Rattle.wsm_kept.specs.Kept.{head_by}
use Rattle.wsm_kept.proofs.Ending.{checked}
use Rattle.wsm_kept.proofs.pass.cut_by.Goals as goal

pub returns-in_err-check-clause-ends : goal.returns-in_err-check-clause-ends
returns-in_err-check-clause-ends c =
    let e = err_from_is_err_and c.from_residual.result c.from_residual.ensures.1 in
    rw (e.1, e.2) (λ q past counts stay. checked q c.args.asked c.args.old past c.args.at_end c.behind-head.result c.in_err-check.field-0.0
    (c.behind-head.ensures q stay.records ∙ (λ i. head_by q c.args.asked.sum c.args.old (counts i) (stay.own i))) c.in_err-check.ensures.ends)

pub returns-in_err-behind-clause-ends : goal.returns-in_err-behind-clause-ends
returns-in_err-behind-clause-ends c =
    let e = err_from_is_err_and c.from_residual-in_err-behind.result c.from_residual-in_err-behind.ensures.1 in
    rw (e.1, e.2) (λ q past counts stay. tt)
