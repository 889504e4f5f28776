use Rattle.std.proofs.Common.{◌∙◌, [], SFits, w64, to_z-of_z, sym, ap, subst}
use Rattle.wsm_semantics.specs.Query.{mark}
use Rattle.wsm_program.specs.Program.{Program}
use Rattle.wsm_machine.specs.Meaning.{query_of}
use Rattle.wsm_cut.specs.Cutter as cutter
use Rattle.wsm_intake.proofs.staying.Staying.open.Goals as goal

pub returns : goal.returns
returns c = λ fits.
    let start : SFits w64 c.mark.result = record { sfits = c.mark.type_inv } in
    let is = c.program.ensures in
    let begins = to_z-of_z start ∙ c.mark.ensures [] fits ∙ ap (λ (m : Program). mark (query_of m) []) (sym is) in
    record { fits = subst (λ (m : Program). cutter.Fits m c.open.result []) is (c.open.ensures.fits begins); each = tt }
