use Rattle.wsm_machine.specs.Meaning.{query_of}
use Rattle.wsm_keep.proofs.Cuts.{on_ok}
use Rattle.wsm_cut.proofs.Judging.{query_lawful}
use Rattle.wsm_cut.proofs.cutter.Cutter.add_staying.Goals as goal

pub returns-clause-fits : goal.returns-clause-fits
returns-clause-fits c = λ p rows fits.
    on_ok c.add_staying.result (λ keeper. record { lawful = fits.lawful; keeper = keeper }) (c.add_staying.ensures.fits (query_of p) rows (query_lawful p fits.lawful) fits.keeper)

pub returns-clause-added : goal.returns-clause-added
returns-clause-added c = λ p rows fits. c.add_staying.ensures.added (query_of p) rows (query_lawful p fits.lawful) fits.keeper
