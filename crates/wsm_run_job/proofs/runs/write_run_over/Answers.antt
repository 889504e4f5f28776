use Rattle.wsm_run_job.proofs.runs.write_run_over.Goals as goal

pub returns-clause-text : goal.returns-clause-text
returns-clause-text g c = (_, _, c.in_ok-totals.ensures.well)

pub returns-clause-means : goal.returns-clause-means
returns-clause-means g c = λ m means. (_, _, c.in_ok-totals.ensures.ends.completes m means)
