use Rattle.std.proofs.Common.{[], subst}
use Rattle.wsm_program.specs.Program.{Program}
use Rattle.wsm_intake.specs.Staying.{Cuts}
use Rattle.wsm_intake.proofs.told.Told.keep.Goals as goal

pub returns-clause-serves : goal.returns-clause-serves
returns-clause-serves c = λ p serves. record {
  program = serves.program;
  fits = serves.fits;
  staying = subst (λ (m : Program). Cuts m c.open.result []) serves.program (c.open.ensures serves.fits);
}
