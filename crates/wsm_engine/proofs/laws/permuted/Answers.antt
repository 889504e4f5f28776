use Rattle.wsm_semantics.proofs.OrderLaws.{same_in_any_order}
use Rattle.wsm_rules.proofs.Lawful.{lawful}
use Rattle.wsm_machine.specs.Meaning.{query_of}
use Rattle.wsm_engine.proofs.Ignoring.{rows_ignore}
use Rattle.wsm_engine.proofs.Limits.{clock_within}
use Rattle.wsm_engine.proofs.laws.permuted.Goals as goal

pub returns : goal.returns
returns c p whole free = same_in_any_order (query_of p) (lawful p whole).shape (clock_within p whole) (rows_ignore p) free
