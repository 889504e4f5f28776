use Rattle.std.proofs.lemmas.Result.{on_ok_weaker}
use Rattle.wsm_head.specs.StandsFor.{program_with}
use Rattle.wsm_intake.proofs.GoingOn.{gone_on}
use Rattle.wsm_intake.proofs.intake.Intake.take.Goals as goal

pub returns-clause-goes_on : goal.returns-clause-goes_on
returns-clause-goes_on c = λ s clocks p before on.
    on_ok_weaker c.take_line.result (gone_on s clocks p c.args.self.now c.take_line.new.self before c.args.line.now on)
    (c.take_line.ensures.behind s clocks (program_with on.records p) p.header.clock.records on.other before on.fits)
