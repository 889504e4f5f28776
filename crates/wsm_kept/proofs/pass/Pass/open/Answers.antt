use Rattle.wsm_kept.proofs.Counted.{keeps_none}
use Rattle.wsm_kept.proofs.Passed.{fits_none}
use Rattle.wsm_kept.proofs.Ending.{not_gone}
use Rattle.wsm_kept.proofs.pass.Pass.open.Goals as goal

pub returns-clause-fits : goal.returns-clause-fits
returns-clause-fits c =
    let rows = c.in_ok-run.ensures.fits in
    fits_none c.args.verified _ rows c.none.ensures c.none-head.ensures c.in_ok-most.ensures.limit
    (keeps_none c.args.verified c.writes_sessions-is_counted.result c.cutter-cutter.result (c.cutter-cutter.ensures.fits c.args.verified rows) c.writes_sessions-is_counted.ensures c.cutter-cutter.ensures.begins)

pub returns-in_err-most-clause-memory : goal.returns-in_err-most-clause-memory
returns-in_err-most-clause-memory c = absurd (not_gone c.args.asked.taken c.none-head.result c.none-head.ensures c.in_err-most.ensures.gone.1)
