use Rattle.std.proofs.Common.{◌∙◌, SFits, refl, to_z, of_z, to_z-of_z, w64}
use Rattle.wsm_intake.specs.declared.intake.Intake.{Intake}
use Rattle.wsm_intake.proofs.GoingOn.{begins}
use Rattle.wsm_intake.proofs.intake.Intake.open.Goals as goal

pub returns-clause-fits : goal.returns-clause-fits
returns-clause-fits c =
    let told = c.in_ok-told.ensures.told in
    record {
      holds = record {
        told = record { program = told.program; fits = told.fits; staying = told.staying };
        waiting = c.in_ok-told.ensures.waiting;
        remembers = c.identifiers_of-identifiers.ensures c.args.clocks _;
      };
      reader = record { source = c.new.ensures.source; heading = c.new.ensures.heading };
      names = c.in_ok-told.ensures.names;
      taken = refl;
      faults = refl;
      doubles = refl;
      silent = refl;
    }

pub returns-clause-goes_on : goal.returns-clause-goes_on
returns-clause-goes_on c =
    let fits : SFits w64 c.records_of-records.result = record { sfits = c.records_of-records.type_inv } in
    let t : Intake = record {
      told = c.in_ok-told.told;
      reader = c.new.result;
      waiting = c.in_ok-told.waiting;
      names = c.in_ok-told.names;
      identifiers = c.identifiers_of-identifiers.result;
      records = to_z w64 (of_z w64 c.records_of-records.result);
      first = c.new-2.result;
      taken = 0;
      faults = 0;
      doubles = 0;
      silent = 0;
    } in
    begins c.args.source c.args.clocks c.args.verified t c.records_of-records.ensures.lawful (to_z-of_z fits ∙ c.records_of-records.ensures.records) c.new-2.ensures.items (returns-clause-fits c)
