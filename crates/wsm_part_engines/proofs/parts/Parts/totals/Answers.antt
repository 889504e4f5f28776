use Rattle.std.proofs.Common.{ap, sym, subst, ◌∙◌}
use Rattle.wsm_program.specs.Program.{Program}
use Rattle.wsm_engine.specs.Meaning.{totals_of}
use Rattle.wsm_part_programs.specs.Names.{of_names}
use Rattle.wsm_part_engines.specs.State.{State}
use Rattle.wsm_part_engines.specs.Fits.{Fits}
use Rattle.wsm_part_engines.specs.View.{state_of}
use Rattle.wsm_part_engines.proofs.Turns.{totals_are}
use Rattle.wsm_part_engines.proofs.parts.Parts.totals.Goals as goal

pub returns : goal.returns
returns c = λ p names past fits.
    let a = c.self.inside in
    let sound = c.self.invariant in
    let s : State = state_of a in
    let here : Fits p names s past = subst (λ (t : State). Fits p names t past) (sym c.self.view_is) fits in
    (λ i. record { rows = a.fed; admitted = c.admitted.ensures i; late = c.late.ensures i; refused = c.refused.ensures i; panes = a.fired })
    ∙ totals_are a.program sound.lawful sound.panes sound.keyless names s.front s.engines s.fed s.fired s.rows past (here.kept names here.named)
    ∙ ap (λ (r : Program). totals_of (of_names r names) past) here.program
