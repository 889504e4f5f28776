use Rattle.wsm_keyed_run.proofs.run.run_keyed_over.Goals as goal

pub returns-clause-completes : goal.returns-clause-completes
returns-clause-completes g c = c.run_keyed.ensures.completes (g.R.Read.remaining c.args.reader) c.new-rows.ensures

pub returns-clause-ends_early : goal.returns-clause-ends_early
returns-clause-ends_early g c = c.run_keyed.ensures.ends_early (g.R.Read.remaining c.args.reader) c.new-rows.ensures
