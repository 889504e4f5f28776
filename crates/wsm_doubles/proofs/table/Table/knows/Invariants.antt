use Rattle.wsm_doubles.specs.Chains.{bucket_of}
use Rattle.wsm_doubles.specs.Entries.{counts_as}
use Rattle.wsm_doubles.proofs.Walk.{Walks}
use Rattle.wsm_doubles.proofs.table.Table.knows.Given as goal

abbrev pub invariant-loop-at : goal.invariant-loop-at
invariant-loop-at l = Walks l.self-inside.chains l.self-inside.entries (counts_as l.moment.clock l.moment.shape l.moment.mark l.identifier) (bucket_of l.self-inside.chains.buckets l.hash) l.at

abbrev pub decreases-loop-at : goal.decreases-loop-at
decreases-loop-at l = l.at
