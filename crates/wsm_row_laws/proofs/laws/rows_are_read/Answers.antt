use Rattle.wsm_row_laws.proofs.ReadRows.{read_back}
use Rattle.wsm_row_laws.proofs.laws.rows_are_read.Goals as goal

pub returns : goal.returns
returns c = λ s d lines h are. (_, read_back s d lines h are)
