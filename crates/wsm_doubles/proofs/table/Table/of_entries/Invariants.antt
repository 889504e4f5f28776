use Rattle.std.proofs.Common.{◌≡◌, map, take}
use Rattle.wsm_doubles.specs.Entries.{entry_of}
use Rattle.wsm_doubles.proofs.table.Table.of_entries.Given as goal

abbrev pub invariant-loop-entry : goal.invariant-loop-entry
invariant-loop-entry l = l.table ≡ record { entries = map entry_of (take l.entry-index l.entries); buckets = l.buckets }
