use Rattle.std.proofs.Common.{[], length}
use Rattle.wsm_turns.specs.Clocks.{count_in}
use Rattle.wsm_keyed_intake.specs.KeyedLog.{kept_by, names_of}
use Rattle.wsm_keyed_intake.proofs.intake.KeyedIntake.counts.Goals as goal

pub returns : goal.returns
returns c = λ g lines fits i.
    let by = fits.by [] in
    let all = names_of g lines in
    record { doubles = by.doubles i; silent = by.silent i; heard = c.clocks_heard.ensures g.clocks (count_in g.clocks (length all)) (kept_by g all lines) by.holds.waiting i }
