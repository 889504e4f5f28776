-- What a program's own laws say of its clock.
use Rattle.std.proofs.Common.{pos, IsTrue, arith}
use Rattle.std.proofs.lemmas.Int.{ints}
use Rattle.wsm_record.specs.declared.limits.TheConstants.{LATEST_TIME}
use Rattle.wsm_admission.specs.Clock.{IsTimely, IsWithinLimits}
use Rattle.wsm_program.specs.Program.{Program, is_program}
use Rattle.wsm_program.proofs.Lawful.{header_parts, program_header}
use Rattle.wsm_rules.proofs.Lawful.{IsLawful, lawful, within}

-- the clock of a program is within the limits of clocks
pub clock_within : (p : Program) → IsTrue (is_program p) → IsWithinLimits p.header.clock
clock_within p whole =
    let parts = header_parts p.header (program_header p whole) in
    let start = within (pos 0) LATEST_TIME p.header.clock.start parts.start in
    let is : IsLawful p.header = lawful p whole in
    record {
      start_from = start.0;
      start_to = start.1;
      skew_from = is.skew.low;
      skew_to = is.skew.high;
      lateness_from = is.lateness.low;
      lateness_to = is.lateness.high;
      records_from = omega (arith, ints, is.records.0);
      records_to = omega (arith, ints, is.records.0, is.records.1);
    }

-- and lateness may be counted from its windows, where it is
pub clock_timely : (p : Program) → IsTrue (is_program p) → IsTimely p.header.clock.from_window p.header.shape
clock_timely p whole = record { windows = (lawful p whole).shape; stays = (header_parts p.header (program_header p whole)).timely }
