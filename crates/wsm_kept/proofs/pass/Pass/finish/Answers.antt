use Rattle.std.proofs.Common.{◌≡◌, ◌∙◌, Bool, sym, subst}
use Rattle.wsm_program.specs.Program.{Program}
use Rattle.wsm_machine.specs.Meaning.{query_of}
use Rattle.wsm_kept.specs.Kept.{written}
use Rattle.wsm_kept.specs.Own.{writes_sessions}
use Rattle.wsm_kept.specs.Pass.{Keeps}
use Rattle.wsm_kept.specs.Stay.{IsStay}
use Rattle.std.proofs.lemmas.Result.{err_from_is_err_and}
use Rattle.wsm_kept.proofs.pass.Pass.finish.Goals as goal

pub returns-clause-cut : goal.returns-clause-cut
returns-clause-cut c = λ p past all cuts.
    let is : c.into_program.result ≡ p = c.into_program.ensures ∙ cuts.program in
    let keeps : Keeps p (writes_sessions p.header) c.args.self.cutter (written (query_of p) past) = subst (λ (b : Bool). Keeps p b c.args.self.cutter (written (query_of p) past)) cuts.cutter.by cuts.cutter in
    c.cut_by.ensures.cut (query_of p) past cuts.counts
    (subst (λ (m : Program). IsStay (query_of m) past c.in_ok-stay.stay) is
    (c.in_ok-stay.ensures past (subst (λ (m : Program). Keeps m (writes_sessions m.header) c.args.self.cutter (written (query_of m) past)) (sym is) keeps)))

pub returns-in_err-stay-clause-ends : goal.returns-in_err-stay-clause-ends
returns-in_err-stay-clause-ends c =
    let e = err_from_is_err_and c.from_residual.result c.from_residual.ensures.1 in
    rw (e.1, e.2) (λ p past all cuts. tt)

pub returns-clause-ends : goal.returns-clause-ends
returns-clause-ends c = λ p past all cuts.
    let is : c.into_program.result ≡ p = c.into_program.ensures ∙ cuts.program in
    let keeps : Keeps p (writes_sessions p.header) c.args.self.cutter (written (query_of p) past) = subst (λ (b : Bool). Keeps p b c.args.self.cutter (written (query_of p) past)) cuts.cutter.by cuts.cutter in
    c.cut_by.ensures.ends (query_of p) past cuts.counts
    (subst (λ (m : Program). IsStay (query_of m) past c.in_ok-stay.stay) is
    (c.in_ok-stay.ensures past (subst (λ (m : Program). Keeps m (writes_sessions m.header) c.args.self.cutter (written (query_of m) past)) (sym is) keeps)))
