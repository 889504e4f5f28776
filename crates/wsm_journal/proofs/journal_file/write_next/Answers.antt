use Rattle.wsm_journal.specs.Calls.{MayLeave}
use Rattle.wsm_journal.proofs.Since.{started}
use Rattle.wsm_journal.proofs.journal_file.write_next.Goals as goal

pub returns-in_err-append_record-clause-any_moment : goal.returns-in_err-append_record-clause-any_moment
returns-in_err-append_record-clause-any_moment g c =
    let old = c.args.folder.now in
    started g.F.JournalFolder.moment g.F.JournalFolder.left_since old (MayLeave (g.F.JournalFolder.folder old)) (λ left since. g.met.F.JournalFolder.only_now old left since)
