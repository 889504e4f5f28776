use Rattle.wsm_key_parts.proofs.MergedParts.{merges_parts, stays_in_order}
use Rattle.wsm_key_parts.proofs.laws.merged.Goals as goal

pub returns-clause-order : goal.returns-clause-order
returns-clause-order c = stays_in_order

pub returns-clause-parts : goal.returns-clause-parts
returns-clause-parts c = merges_parts
