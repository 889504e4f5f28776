use Rattle.std.proofs.lemmas.Result.{on_ok_weaker}
use Rattle.wsm_live_run.proofs.log_lines.LogLinesLineTaker.take.Goals as goal

pub returns-clause-stands : goal.returns-clause-stands
returns-clause-stands c = λ by before was.
    on_ok_weaker c.take.result (λ gone. record { clocks = was.clocks; goes_on = gone.goes_on }) (c.take.ensures.goes_on by.source by.clocks by.program before was.goes_on)

pub returns-clause-written : goal.returns-clause-written
returns-clause-written c = λ by before was.
    on_ok_weaker c.take.result (λ gone. gone.text) (c.take.ensures.goes_on by.source by.clocks by.program before was.goes_on)
