use Rattle.std.proofs.Common.{◌∙◌, List, ℕ, [], IsTrue, SFits, w64, to_z-of_z, sym, ap, subst, arith, ◌≡◌}
use Rattle.std.proofs.lemmas.Int.{ints, fits_signed_from_abs}
use Rattle.wsm_windows.specs.Windows.{IsShape, IsSpan}
use Rattle.wsm_program.specs.Program.{Header, Program, is_program}
use Rattle.wsm_program.specs.View.{header_of}
use Rattle.wsm_rules.proofs.Lawful.{lawful}
use Rattle.wsm_part_programs.specs.Names.{of_names}
use Rattle.wsm_keyed_told.proofs.ByNames.{names_lawful}
use Rattle.wsm_keyed_told.proofs.staying.KeyedStaying.open.Goals as goal
use Rattle.wsm_keyed_told.proofs.staying.KeyedStaying.open.Goals.{After-header-header}

late_fits : (c : After-header-header) → SFits w64 c.header-header.result.now.clock.lateness
late_fits c =
    let good = lawful c.args.parts.now.program c.header-header.ensures.lawful in
    let span : IsSpan c.header-header.result.now.clock.lateness = subst IsSpan (sym (ap (λ (h : Header). h.clock.lateness) c.header-header.ensures.header)) good.lateness in
    fits_signed_from_abs w64 c.header-header.result.now.clock.lateness (grind (arith, ints, span.low, span.high))

pub invariant_of-result : goal.invariant_of-result
invariant_of-result c =
    let at = (goal.at.invariant_of-result c).After-header-header in
    let is = c.header-header.ensures.header in
    let good = lawful c.args.parts.now.program c.header-header.ensures.lawful in
    record {
      shape = subst IsShape (sym (c.open.ensures.shape ∙ ap (λ (h : Header). h.shape) is)) good.shape;
      lateness = subst IsSpan (sym (c.open.ensures.lateness ∙ to_z-of_z (late_fits at) ∙ ap (λ (h : Header). h.clock.lateness) is)) good.lateness;
    }

pub returns : goal.returns
returns c = λ p all fits.
    let at = (goal.at.returns c).After-header-header in
    let own : c.args.parts.now.program ≡ p = fits.program in
    let is : header_of c.header-header.result.now ≡ p.header = c.header-header.ensures.header ∙ ap (λ (m : Program). m.header) own in
    let whole : IsTrue (is_program p) = subst (λ (m : Program). IsTrue (is_program m)) own c.header-header.ensures.lawful in
    let start : SFits w64 c.mark.result = record { sfits = c.mark.type_inv } in
    let good = names_lawful p whole all in
    record {
      lawful = record { shape = good.shape; timely = good.timely };
      fits =
          c.open.ensures.fits (of_names p all) good (ap (λ (h : Header). h.shape) is)
          (to_z-of_z (late_fits at) ∙ ap (λ (h : Header). h.clock.lateness) is)
          (ap (λ (h : Header). h.form) is)
          (to_z-of_z start ∙ c.mark.ensures p all [] fits);
      each = tt;
    }
