use Rattle.std.proofs.Common.{IsTrue, SFits, w64, to_z-of_z, sym, ap, subst, ◌∙◌, arith}
use Rattle.std.proofs.lemmas.Int.{ints, fits_signed_from_abs}
use Rattle.wsm_windows.specs.Windows.{IsShape, IsSpan}
use Rattle.wsm_program.specs.Program.{Header, Program, is_program}
use Rattle.wsm_rules.proofs.Lawful.{lawful as program_lawful}
use Rattle.wsm_machine.specs.Meaning.{query_of}
use Rattle.wsm_cut.proofs.Judging.{query_lawful}
use Rattle.wsm_cut.proofs.cutter.Cutter.open.Goals as goal
use Rattle.wsm_cut.proofs.cutter.Cutter.open.Goals.{After-header-header}

late_fits : (c : After-header-header) → SFits w64 c.header-header.result.now.clock.lateness
late_fits c =
    let good = program_lawful c.args.program.now c.header-header.ensures.lawful in
    let span : IsSpan c.header-header.result.now.clock.lateness = subst IsSpan (sym (ap (λ (h : Header). h.clock.lateness) c.header-header.ensures.header)) good.lateness in
    fits_signed_from_abs w64 c.header-header.result.now.clock.lateness (grind (arith, ints, span.low, span.high))

pub returns-clause-ready : goal.returns-clause-ready
returns-clause-ready c =
    let at = (goal.at.returns-clause-ready c).After-header-header in
    let is = c.header-header.ensures.header in
    let good = program_lawful c.args.program.now c.header-header.ensures.lawful in
    record {
      shape = subst IsShape (sym (c.open.ensures.shape ∙ ap (λ (h : Header). h.shape) is)) good.shape;
      lateness = subst IsSpan (sym (c.open.ensures.lateness ∙ to_z-of_z (late_fits at) ∙ ap (λ (h : Header). h.clock.lateness) is)) good.lateness;
    }

pub returns-clause-fits : goal.returns-clause-fits
returns-clause-fits c = λ first.
    let at = (goal.at.returns-clause-fits c).After-header-header in
    let is = c.header-header.ensures.header in
    let p : Program = c.args.program.now in
    let whole : IsTrue (is_program p) = c.header-header.ensures.lawful in
    let start : SFits w64 c.args.start = c.ranges.start in
    record {
      lawful = whole;
      keeper =
          c.open.ensures.fits (query_of p) (query_lawful p whole) (ap (λ (h : Header). h.shape) is)
          (to_z-of_z (late_fits at) ∙ ap (λ (h : Header). h.clock.lateness) is)
          (ap (λ (h : Header). h.form) is)
          (to_z-of_z start ∙ first);
    }
