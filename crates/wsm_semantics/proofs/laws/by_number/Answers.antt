use Rattle.wsm_semantics.proofs.NumberRows.{same_by_numbers}
use Rattle.wsm_semantics.proofs.laws.by_number.Goals as goal

pub returns : goal.returns
returns c = same_by_numbers
