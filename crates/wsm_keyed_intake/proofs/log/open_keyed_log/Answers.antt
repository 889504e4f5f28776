use Rattle.std.proofs.Common.{[], subst}
use Rattle.std.proofs.lemmas.Result.{err_from_is_err_and}
use Rattle.wsm_program.specs.Program.{Program}
use Rattle.wsm_keyed_intake.specs.GoesOn.{GoesOn}
use Rattle.wsm_keyed_intake.proofs.log.open_keyed_log.Goals as goal

pub returns-in_err-parts-clause-unrun : goal.returns-in_err-parts-clause-unrun
returns-in_err-parts-clause-unrun c =
    let e = err_from_is_err_and c.from_residual.result c.from_residual.ensures.1 in
    rw (e.1, e.2) (c.in_err-parts.ensures.unrun c.args.names c.args.most)

pub returns-in-Ok-clause-goes_on : goal.returns-in-Ok-clause-goes_on
returns-in-Ok-clause-goes_on c =
    subst (λ (p : Program). GoesOn (record { program = p; source = c.args.source; clocks = c.args.clocks; names = c.args.names; most = c.args.most }) c.in-Ok.intake [])
    c.in_ok-parts.ensures.program c.in-Ok.ensures.goes_on
