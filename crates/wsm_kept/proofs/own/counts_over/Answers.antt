use Rattle.wsm_kept.proofs.own.counts_over.Goals as goal

pub returns : goal.returns
returns c = c.count_rows.ensures c.args.verified c.in_ok-run.ensures.fits
