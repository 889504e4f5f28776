use Rattle.std.proofs.Common.{◌≡◌, [], subst, sym}
use Rattle.wsm_record.specs.declared.words.Form.TheVariants.{Panes}
use Rattle.wsm_program.specs.Program.{Program}
use Rattle.wsm_part_engines.specs.Fits.{Fits}
use Rattle.wsm_keyed_intake.proofs.log.parts_of.Goals as goal

pub returns-in-Ok-clause-opened : goal.returns-in-Ok-clause-opened
returns-in-Ok-clause-opened c =
    let is = c.in-Ok.ensures.program in
    record {
      panes = subst (λ (p : Program). p.header.form ≡ Panes) (sym is) c.in-Ok.ensures.may.panes;
      fits = λ names. subst (λ (p : Program). Fits p names c.in-Ok.parts []) (sym is) (c.in-Ok.ensures.fits names);
    }
