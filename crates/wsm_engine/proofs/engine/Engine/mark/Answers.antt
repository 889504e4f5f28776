use Rattle.std.proofs.Common.{◌∙◌, SFits, w64, to_z-of_z, ap, arith}
use Rattle.std.proofs.lemmas.Int.{fits_signed_from_abs, ints}
use Rattle.wsm_admission.specs.Clock.{watermark_of}
use Rattle.wsm_machine.specs.Meaning.{query_of}
use Rattle.wsm_engine.specs.Engine.{state_of}
use Rattle.wsm_engine.proofs.engine.Engine.mark.Goals as goal

pub returns : goal.returns
returns c =
    let fits64 : SFits w64 c.mark.result = fits_signed_from_abs w64 c.mark.result (grind (arith, ints, c.mark.ensures.from, c.mark.ensures.to)) in
    rw (← c.self.view_is)
    (λ past fits.
    to_z-of_z fits64
    ∙ c.mark.ensures.mark
    ∙ fits.admission.mark
    ∙ ap (λ clock. watermark_of clock (query_of (state_of c.self.inside).program).declared past) fits.clock)
