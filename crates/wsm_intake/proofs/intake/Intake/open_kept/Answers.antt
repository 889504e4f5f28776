use Rattle.wsm_intake.proofs.GoingOn.{begins, keeping}
use Rattle.wsm_intake.proofs.intake.Intake.open_kept.Goals as goal

pub returns-clause-goes_on : goal.returns-clause-goes_on
returns-clause-goes_on c =
    let on = c.in_ok-intake.ensures.goes_on in
    begins c.args.source c.args.clocks c.args.verified (record c.in_ok-intake.intake { told = c.keep.new.self }) on.lawful on.fits.records on.fits.first
    (keeping c.args.source c.args.clocks c.args.verified c.in_ok-intake.intake c.keep.new.self c.in_ok-intake.ensures.fits (c.keep.ensures.serves c.args.verified))
