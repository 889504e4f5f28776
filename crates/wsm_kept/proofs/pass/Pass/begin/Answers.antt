use Rattle.std.proofs.Common.{arith}
use Rattle.std.proofs.lemmas.Result.{err_from_is_err_and}
use Rattle.csv.specs.Records.{fields_of}
use Rattle.wsm_machine.specs.Meaning.{query_of}
use Rattle.wsm_kept.proofs.Ending.{begins, none_past}
use Rattle.wsm_kept.proofs.pass.Pass.begin.Goals as goal

pub returns-in_err-head-clause-ends : goal.returns-in_err-head-clause-ends
returns-in_err-head-clause-ends c =
    let e = err_from_is_err_and c.from_residual.result c.from_residual.ensures.1 in
    rw (e.1, e.2) (λ p past fits.
    (none_past (query_of p) past c.args.self.now.counts fits.cuts.counts (omega (arith, c.if-self-eq0.true)), begins c.args.self.now.asked (fields_of c.args.row.now) c.in_err-head.field-0.0 c.in_err-head.ensures.ends))

pub returns-in_err-self-clause-ends : goal.returns-in_err-self-clause-ends
returns-in_err-self-clause-ends c =
    let e = err_from_is_err_and c.from_residual-in_err-self.result c.from_residual-in_err-self.ensures.1 in
    rw (e.1, e.2, c.in_err-self.ensures.gone.0) (λ p past fits.
    (none_past (query_of p) past c.args.self.now.counts fits.cuts.counts (omega (arith, c.if-self-eq0.true)), (c.in_ok-head.head, c.in_ok-head.ensures.says, c.in_ok-head.ensures.of, c.in_err-self.ensures.gone.1)))
