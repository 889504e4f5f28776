use Rattle.std.proofs.Common.{◌≡◌, refl, subst, inl, inr}
use Rattle.std.proofs.lemmas.Result.{err_from_is_err_and}
use Rattle.wsm_inputs.specs.declared.end.End.TheVariants.{WriteFailed}
use Rattle.wsm_ends.specs.declared.keyed.KeyedStop.TheVariants.{End}
use Rattle.wsm_keyed_run.specs.Keyed.{Keyed}
use Rattle.wsm_keyed_run.specs.Places.{IsUnrun}
use Rattle.wsm_inputs.proofs.Unwritten.{Keeps-same}
use Rattle.wsm_keyed_run.proofs.run.run_keyed.Goals as goal

pub returns-in_err-parts-clause-ends_early : goal.returns-in_err-parts-clause-ends_early
returns-in_err-parts-clause-ends_early g c =
    let e = err_from_is_err_and c.from_residual.result c.from_residual.ensures.1 in
    rw (e.1, e.2) (λ known start. inl (c.in_err-parts.ensures.unrun, Keeps-same (g.D.Device.taken c.args.out.now)))

pub returns-in_err-parts-clause-write_failed : goal.returns-in_err-parts-clause-write_failed
returns-in_err-parts-clause-write_failed g c =
    let e = err_from_is_err_and c.from_residual.result c.from_residual.ensures.1 in
    rw (e.1, e.2) (λ failed. let same : c.in_err-parts.field-0.0 ≡ End WriteFailed = cc failed in absurd (subst (IsUnrun c.args.text.now) same c.in_err-parts.ensures.unrun))

pub of-turns-requires-clause-fits : goal.of-turns-requires-clause-fits
of-turns-requires-clause-fits g c = c.in_ok-parts.ensures.opened.fits

pub returns-in_err-totals-clause-ends_early : goal.returns-in_err-totals-clause-ends_early
returns-in_err-totals-clause-ends_early g c =
    let e = err_from_is_err_and c.from_residual-in_err-totals.result c.from_residual-in_err-totals.ensures.1 in
    let k : Keyed = record { program = c.in_ok-parts.parts.program; names = c.args.names; most = c.args.most } in
    rw (e.1, e.2) (λ known start.
    inr (c.in_err-totals.field-0.0, k.program, refl, c.in_ok-parts.ensures.opened.by, c.in_err-totals.ensures.ends_early known k start c.of-turns.ensures.fits))

pub returns-clause-completes : goal.returns-clause-completes
returns-clause-completes g c = λ known start.
    let k : Keyed = record { program = c.in_ok-parts.parts.program; names = c.args.names; most = c.args.most } in
    (k.program, c.in_ok-parts.ensures.opened.by, c.in_ok-totals.ensures.completes known k start c.of-turns.ensures.fits)
