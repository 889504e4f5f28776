use Rattle.wsm_run_job.proofs.logs.Ready.run.Goals as goal

pub returns : goal.returns
returns g c = λ input m accepted means. (_, _, (c.in_ok-end.ensures.ends input accepted).completes m means)
