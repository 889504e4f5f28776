use Rattle.std.proofs.Common.{◌∙◌, [], SFits, w64, to_z-of_z, sym, ap, subst}
use Rattle.wsm_semantics.specs.Query.{mark}
use Rattle.wsm_program.specs.Program.{Program}
use Rattle.wsm_machine.specs.Meaning.{query_of}
use Rattle.wsm_cut.specs.Cutter as cutter
use Rattle.wsm_kept.proofs.run.Run.cutter.Goals as goal

pub returns-clause-fits : goal.returns-clause-fits
returns-clause-fits c = λ p fits.
    let start : SFits w64 c.mark.result = record { sfits = c.mark.type_inv } in
    let is = c.program.ensures in
    let begins = to_z-of_z start ∙ c.mark.ensures [] fits.engine.fits ∙ ap (λ (m : Program). mark (query_of m) []) (sym is) in
    subst (λ (m : Program). cutter.Fits m c.open.result []) (is ∙ fits.engine.program) (c.open.ensures.fits begins)
