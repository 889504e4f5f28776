use Rattle.std.proofs.Common.{length}
use Rattle.wsm_turns.specs.Clocks.{count_in}
use Rattle.wsm_turns.specs.Turns.{kept}
use Rattle.wsm_log_text.specs.LogText.{said}
use Rattle.wsm_intake.specs.Turns.{setting_by}
use Rattle.wsm_intake.proofs.intake.Intake.counts.Goals as goal

pub returns : goal.returns
returns c = λ s clocks p lines fits i.
    let d = p.header.schema in
    let k = kept (setting_by clocks p) (said s clocks d lines) in
    record { doubles = fits.doubles i; silent = fits.silent i; heard = c.clocks_heard.ensures clocks (count_in clocks (length d.keys)) k fits.holds.waiting i }
