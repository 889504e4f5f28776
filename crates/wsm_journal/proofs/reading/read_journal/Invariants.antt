use Rattle.std.proofs.Common.{◌≡◌, ◌≤◌, ◌-◌, drop, length, map}
use Rattle.wsm_journal.specs.Reading.{read_from, read_journal}
use Rattle.wsm_journal.specs.Seen.{entry_seen}
use Rattle.wsm_journal.proofs.ReadLemmas.{joined}
use Rattle.wsm_journal.proofs.reading.read_journal.Given as goal

-- the records so far, and what the bytes that are left are read as
abbrev pub invariant-loop-found : goal.invariant-loop-found
invariant-loop-found l = record {
  read : read_journal l.text ≡ joined (map entry_seen l.records.items) l.size (read_from l.last 0 (drop l.size l.text));
  within : l.size ≤ length l.text;
}

abbrev pub decreases-loop-found : goal.decreases-loop-found
decreases-loop-found l = length l.text - l.size
