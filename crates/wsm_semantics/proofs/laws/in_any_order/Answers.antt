use Rattle.wsm_semantics.proofs.OrderLaws.{same_in_any_order}
use Rattle.wsm_semantics.proofs.laws.in_any_order.Goals as goal

pub returns : goal.returns
returns c = same_in_any_order
