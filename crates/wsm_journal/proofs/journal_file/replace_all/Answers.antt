use Rattle.std.proofs.Common.{map}
use Rattle.wsm_journal.specs.Seen.{entry_seen}
use Rattle.wsm_journal.proofs.Folders.{replaced_records, replaced_settled}
use Rattle.wsm_journal.proofs.journal_file.replace_all.Goals as goal

pub returns-clause-settled : goal.returns-clause-settled
returns-clause-settled g c =
    let f = g.F.JournalFolder.folder in
    replaced_settled (f c.args.folder.now) (f c.write_anew.new.folder) (map entry_seen c.args.records.now) c.last_number.result c.requires c.in_ok-write_anew.ensures.done c.last_number.ensures

pub returns-clause-records : goal.returns-clause-records
returns-clause-records g c =
    let f = g.F.JournalFolder.folder in
    replaced_records (f c.args.folder.now) (f c.write_anew.new.folder) (map entry_seen c.args.records.now) c.requires c.in_ok-write_anew.ensures.done
