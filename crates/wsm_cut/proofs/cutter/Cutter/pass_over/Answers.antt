use Rattle.wsm_machine.specs.Meaning.{query_of}
use Rattle.wsm_cut.proofs.Judging.{query_lawful}
use Rattle.wsm_cut.proofs.cutter.Cutter.pass_over.Goals as goal

pub returns-clause-fits : goal.returns-clause-fits
returns-clause-fits c = λ p rows e text fits told. record { lawful = fits.lawful; keeper = c.pass_over.ensures.fits (query_of p) rows e text (query_lawful p fits.lawful) fits.keeper told }
