use Rattle.std.proofs.Common.{◌∙◌, SFits, w64, to_z-of_z, ap, sym, subst, arith}
use Rattle.std.proofs.lemmas.Int.{fits_signed_from_abs, ints}
use Rattle.wsm_semantics.specs.Query.{mark}
use Rattle.wsm_program.specs.Program.{Program}
use Rattle.wsm_part_programs.specs.Names.{of_names}
use Rattle.wsm_part_engines.specs.State.{State}
use Rattle.wsm_part_engines.specs.Fits.{Fits}
use Rattle.wsm_part_engines.specs.View.{state_of}
use Rattle.wsm_part_engines.proofs.Turns.{mark_is}
use Rattle.wsm_part_engines.proofs.parts.Parts.mark.Goals as goal

pub returns : goal.returns
returns c = λ p names past fits.
    let a = c.self.inside in
    let sound = c.self.invariant in
    let s : State = state_of a in
    let here : Fits p names s past = subst (λ (t : State). Fits p names t past) (sym c.self.view_is) fits in
    let fits64 : SFits w64 c.mark.result = fits_signed_from_abs w64 c.mark.result (grind (arith, ints, c.mark.ensures.from, c.mark.ensures.to)) in
    to_z-of_z fits64
    ∙ c.mark.ensures.mark
    ∙ mark_is a.program sound.lawful sound.panes sound.keyless names s.front s.engines s.fed s.fired s.rows past (here.kept names here.named)
    ∙ ap (λ (r : Program). mark (of_names r names) past) here.program
