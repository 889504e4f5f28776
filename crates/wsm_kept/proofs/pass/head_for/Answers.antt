use Rattle.std.proofs.lemmas.Result.{err_from_is_err_and}
use Rattle.csv.specs.Records.{fields_of}
use Rattle.wsm_kept.proofs.Heads.{first_ends}
use Rattle.wsm_kept.proofs.pass.head_for.Goals as goal

pub returns-in_err-head-clause-ends : goal.returns-in_err-head-clause-ends
returns-in_err-head-clause-ends c =
    let e = err_from_is_err_and c.from_residual.result c.from_residual.ensures.1 in
    rw (e.1, e.2) (first_ends c.args.sum (fields_of c.args.row.now) c.in_err-head.field-0.0 c.in_err-head.ensures.ends)
