use Rattle.std.proofs.lemmas.Result.{on_ok_weaker}
use Rattle.wsm_live_run.proofs.KeyedLemmas.{next_turns, turn_written}
use Rattle.wsm_live_run.proofs.keyed_log_lines.KeyedLogLinesLineTaker.take.Goals as goal

pub returns-clause-stands : goal.returns-clause-stands
returns-clause-stands c = λ g before was.
    on_ok_weaker c.take.result (λ gone.
    record { clocks = was.clocks; goes_on = gone.goes_on; turns = next_turns g before c.args.line.now c.take.new.self.told.lines.items gone.text was.turns }) (c.take.ensures.goes_on g before was.goes_on)

pub returns-clause-written : goal.returns-clause-written
returns-clause-written c = λ g before was.
    on_ok_weaker c.take.result (λ gone. turn_written g before c.args.line.now c.take.new.self.told.lines.items gone.text) (c.take.ensures.goes_on g before was.goes_on)
