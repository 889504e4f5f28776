use Rattle.std.proofs.Common.{◌≡◌, ◌∙◌, [], IsTrue, subst, sym}
use Rattle.wsm_record.specs.declared.words.Form.TheVariants.{Panes}
use Rattle.wsm_program.specs.Program.{Program, is_program}
use Rattle.wsm_part_engines.specs.Fits.{Fits}
use Rattle.wsm_keyed_run.specs.Places.{IsByPlaces}
use Rattle.wsm_keyed_run.proofs.run.parts_of.Goals as goal

pub returns-in-Ok-clause-opened : goal.returns-in-Ok-clause-opened
returns-in-Ok-clause-opened c =
    let is = c.in-Ok.ensures.program in
    record {
      by = subst (IsByPlaces c.args.text.now) (sym is) c.in_ok-verified.ensures.accepted;
      lawful = subst (λ (p : Program). IsTrue (is_program p)) (c.program.ensures.program ∙ sym is) c.header.ensures.lawful;
      panes = subst (λ (p : Program). p.header.form ≡ Panes) (sym is) c.in-Ok.ensures.may.panes;
      fits = λ names. subst (λ (p : Program). Fits p names c.in-Ok.parts []) (sym is) (c.in-Ok.ensures.fits names);
    }
