use Rattle.wsm_semantics.proofs.KeptLaw.{rows-by}
use Rattle.wsm_semantics.proofs.laws.rows_alone.Goals as goal

pub returns : goal.returns
returns c = rows-by
