use Rattle.wsm_run_job.proofs.keyed.write_run_over.Goals as goal

pub returns : goal.returns
returns g c = (_, _, c.in_ok-run.ensures.completes)
