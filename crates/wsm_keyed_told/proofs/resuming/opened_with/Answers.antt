use Rattle.std.proofs.Common.{List, ℕ, [], sym, subst}
use Rattle.wsm_program.specs.Program.{Program}
use Rattle.wsm_part_engines.specs.Fits.{Fits}
use Rattle.wsm_keyed_told.proofs.resuming.opened_with.Goals as goal

pub returns-clause-fits : goal.returns-clause-fits
returns-clause-fits c = λ names. subst (λ (p : Program). Fits p names c.in-Ok-open.parts []) (sym c.in-Ok-open.ensures.program) (c.in-Ok-open.ensures.fits names)
