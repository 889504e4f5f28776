use Rattle.std.proofs.Common.{◌≡◌, ◌++◌, drop, map}
use Rattle.wsm_journal.specs.Text.{journal_text}
use Rattle.wsm_journal.specs.Seen.{entry_seen}
use Rattle.wsm_journal.proofs.journal_file.write_next.Given as goal

-- the text so far, with that of the records that are left
abbrev pub invariant-loop-record : goal.invariant-loop-record
invariant-loop-record g l = l.text.items ++ journal_text (map entry_seen (drop l.record-index l.records)) ≡ journal_text (map entry_seen l.records)
