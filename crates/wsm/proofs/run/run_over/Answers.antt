use Rattle.wsm.proofs.run.run_over.Goals as goal

pub returns-clause-ends : goal.returns-clause-ends
returns-clause-ends g c = c.run_input.ensures.ends (g.R.Read.remaining c.args.reader) c.new-rows.ensures

pub returns-clause-well : goal.returns-clause-well
returns-clause-well g c = c.run_input.ensures.well (g.R.Read.remaining c.args.reader) c.new-rows.ensures
