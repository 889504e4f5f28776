use Rattle.std.proofs.lemmas.Result.{IfOk-weaker, on_ok_weaker}
use Rattle.wsm_live_run.proofs.KeyedLemmas.{behind_text}
use Rattle.wsm_live_run.proofs.keyed_log_lines.KeyedLogLinesLineTaker.save.Goals as goal

pub returns-clause-stands : goal.returns-clause-stands
returns-clause-stands c = λ g before was.
    on_ok_weaker c.save.result (λ goes_on. record { clocks = was.clocks; goes_on = goes_on; turns = was.turns }) (c.save.ensures.goes_on g before was.goes_on)

pub returns-clause-states : goal.returns-clause-states
returns-clause-states c = λ g before was.
    IfOk-weaker c.save.result _ _ (λ is_saved says yes. behind_text g before c.args.text.now.items c.save.new.text.items was.turns (says yes)) (c.save.ensures.saved g before was.goes_on)

pub returns-clause-said : goal.returns-clause-said
returns-clause-said c = λ g before was. c.save.ensures.when g before was.goes_on
