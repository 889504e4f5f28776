use Rattle.std.proofs.Common.{ap}
use Rattle.wsm_keyed_told.specs.declared.told.KeyedTold.{KeyedTold}
use Rattle.wsm_keyed_intake.specs.KeyedLog.{KeyedLog}
use Rattle.wsm_keyed_intake.proofs.GoingOn.{kept_on}
use Rattle.wsm_keyed_intake.proofs.intake.KeyedIntake.open_kept.Goals as goal

pub returns-clause-goes_on : goal.returns-clause-goes_on
returns-clause-goes_on c =
    let g : KeyedLog = record { program = c.args.parts.program; source = c.args.source; clocks = c.args.clocks; names = c.args.names; most = c.args.most } in
    kept_on g c.in_ok-intake.intake c.keep.new.self c.in_ok-intake.ensures.fits c.in_ok-intake.ensures.goes_on (ap (λ (t : KeyedTold). t.names) c.keep.ensures.others) (c.keep.ensures.serves c.args.parts.program)
