use Rattle.wsm_run_job.proofs.keyed_logs.Named.run.Goals as goal

pub returns : goal.returns
returns g c = (_, _, c.in_ok-run.ensures.completes)
