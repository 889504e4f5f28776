use Rattle.wsm_row_laws.proofs.FedRows.{rows_fed}
use Rattle.wsm_row_laws.proofs.laws.rows_are_fed.Goals as goal

pub returns : goal.returns
returns c = λ w once last lines h are. rows_fed w once last lines h are
