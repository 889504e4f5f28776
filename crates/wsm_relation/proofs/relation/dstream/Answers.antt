use Rattle.wsm_relation.proofs.Bags.{excess}
use Rattle.wsm_relation.proofs.relation.dstream.Goals as goal

pub returns-clause-counts : goal.returns-clause-counts
returns-clause-counts c = rw (← c.before-2.view_is, ← c.now.view_is) (excess _ _ c.before-2.invariant.0)
