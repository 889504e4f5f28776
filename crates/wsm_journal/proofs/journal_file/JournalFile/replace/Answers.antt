use Rattle.wsm_journal.proofs.Folders.{still_settled}
use Rattle.wsm_journal.proofs.journal_file.JournalFile.replace.Goals as goal

pub returns-in-Err-clause-kept : goal.returns-in-Err-clause-kept
returns-in-Err-clause-kept g c = λ kept.
    let f = g.F.JournalFolder.folder in
    still_settled (f c.args.self.now.folder) (f c.replace_all.new.folder) c.args.self.now.last (c.in-Err.ensures.kept kept) c.requires.settled
