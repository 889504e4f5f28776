use Rattle.wsm_machine.specs.Meaning.{query_of}
use Rattle.wsm_keep.proofs.Cuts.{on_ok}
use Rattle.wsm_cut.proofs.Judging.{query_lawful}
use Rattle.wsm_cut.proofs.cutter.Cutter.take.Goals as goal

pub returns-clause-fits : goal.returns-clause-fits
returns-clause-fits c = λ p rows e fits told.
    on_ok c.take.result (λ keeper. record { lawful = fits.lawful; keeper = keeper }) (c.take.ensures.fits (query_of p) rows e (query_lawful p fits.lawful) fits.keeper told)

pub returns-clause-begun : goal.returns-clause-begun
returns-clause-begun c = λ p rows e panes fits told begun. c.take.ensures.begun (query_of p) rows e (query_lawful p fits.lawful) panes fits.keeper told begun
