use Rattle.wsm_keyed_told.proofs.told.KeyedTold.of.Goals as goal

pub returns-clause-serves : goal.returns-clause-serves
returns-clause-serves c = record { lawful = c.requires.lawful; panes = c.requires.panes; parts = c.requires.fits c.args.names; staying = tt }
