use Rattle.std.proofs.Common.{◌∷◌, Ok}
use Rattle.wsm_keep.proofs.keeper.Keeper.take.Goals as goal

pub returns-in_ok-cut-clause-fits : goal.returns-in_ok-cut-clause-fits
returns-in_ok-cut-clause-fits c = λ q rows e lawful fits told.
    (c.in_ok-cut.ensures.cut q ((Ok e, c.args.text.now) ∷ rows) lawful (c.in_ok-queue_row.ensures.fits q rows e lawful fits told)).fits
