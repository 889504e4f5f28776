use Rattle.std.proofs.lemmas.Result.{IfOk-weaker, on_ok_weaker}
use Rattle.wsm_live_run.proofs.SavedLemmas.{behind_text}
use Rattle.wsm_live_run.proofs.log_lines.LogLinesLineTaker.save.Goals as goal

pub returns-clause-stands : goal.returns-clause-stands
returns-clause-stands c = λ by before was.
    on_ok_weaker c.save.result (λ goes_on. record { clocks = was.clocks; goes_on = goes_on }) (c.save.ensures.goes_on by.source by.clocks by.program before was.goes_on)

pub returns-clause-states : goal.returns-clause-states
returns-clause-states c = λ by before was.
    IfOk-weaker c.save.result _ _ (λ is_saved says yes. behind_text by before c.args.text.now.items c.save.new.text.items (says yes)) (c.save.ensures.saved by.source by.clocks by.program before was.goes_on)

pub returns-clause-said : goal.returns-clause-said
returns-clause-said c = λ by before was. c.save.ensures.when by.source by.clocks by.program before was.goes_on
