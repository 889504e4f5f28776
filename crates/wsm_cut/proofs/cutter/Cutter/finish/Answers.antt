use Rattle.wsm_machine.specs.Meaning.{query_of}
use Rattle.wsm_cut.proofs.Judging.{query_lawful}
use Rattle.wsm_cut.proofs.cutter.Cutter.finish.Goals as goal

pub returns-clause-texts : goal.returns-clause-texts
returns-clause-texts c = λ p rows fits. c.finish.ensures.texts (query_of p) rows (query_lawful p fits.lawful) fits.keeper

pub returns-clause-selected : goal.returns-clause-selected
returns-clause-selected c = λ p rows fits. c.finish.ensures.selected (query_of p) rows (query_lawful p fits.lawful) fits.keeper

pub returns-clause-written : goal.returns-clause-written
returns-clause-written c = λ p rows panes fits begun. c.finish.ensures.written (query_of p) rows (query_lawful p fits.lawful) panes fits.keeper begun
