use Rattle.wsm_intake.proofs.told.Told.open_kept.Goals as goal

pub returns-clause-serves : goal.returns-clause-serves
returns-clause-serves c = c.keep.ensures.serves c.args.verified c.in_ok-told.ensures
