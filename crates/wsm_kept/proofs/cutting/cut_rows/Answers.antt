use Rattle.wsm_kept.proofs.Asking.{asked_cut}
use Rattle.std.proofs.Common.{◌∙◌}
use Rattle.std.proofs.Common.{subst}
use Rattle.std.proofs.lemmas.Result.{err_from_is_err_and}
use Rattle.wsm_machine.specs.Meaning.{query_of}
use Rattle.wsm_kept.specs.declared.asked.Asked.{Asked}
use Rattle.wsm_kept.specs.Ends.{EndsBy}
use Rattle.wsm_kept.proofs.Ending.{finish_ends}
use Rattle.wsm_kept.proofs.cutting.cut_rows.Goals as goal

pub returns-clause-cut : goal.returns-clause-cut
returns-clause-cut g c = λ known start.
    asked_cut g.R.Read.remaining known c.args.verified c.args.asked c.take_rows.new.pass c.take_rows.new.rows c.in_ok-at_end.at_end c.finish.result
    (c.take_rows.ensures.asked ∙ c.in_ok-pass.ensures.asked) (c.in_ok-at_end.ensures.passes known c.args.verified start c.in_ok-pass.ensures.fits) (c.finish.ensures.cut c.args.verified)

pub returns-in_err-pass-clause-ends : goal.returns-in_err-pass-clause-ends
returns-in_err-pass-clause-ends g c =
    let e = err_from_is_err_and c.from_residual.result c.from_residual.ensures.1 in
    rw (e.1, e.2, c.in_err-pass.ensures.memory) (λ known start. tt)

pub returns-in_err-at_end-clause-ends : goal.returns-in_err-at_end-clause-ends
returns-in_err-at_end-clause-ends g c =
    let e = err_from_is_err_and c.from_residual-in_err-at_end.result c.from_residual-in_err-at_end.ensures.1 in
    rw (e.1, e.2) (λ known start.
    subst (λ (a : Asked). EndsBy g.R.Read.remaining known (query_of c.args.verified) a c.take_rows.new.rows c.in_err-at_end.field-0.0) c.in_ok-pass.ensures.asked
    (c.in_err-at_end.ensures.ends known c.args.verified start c.in_ok-pass.ensures.fits))

pub returns-clause-ends : goal.returns-clause-ends
returns-clause-ends g c = λ known start.
    finish_ends g.R.Read.remaining known c.args.verified c.args.asked c.take_rows.new.pass c.take_rows.new.rows c.in_ok-at_end.at_end c.finish.result
    (c.take_rows.ensures.asked ∙ c.in_ok-pass.ensures.asked) (c.in_ok-at_end.ensures.passes known c.args.verified start c.in_ok-pass.ensures.fits) (c.finish.ensures.ends c.args.verified)
