use Rattle.std.proofs.Common.{inl}
use Rattle.wsm_journal.specs.Folder.{Rename, SyncFolder}
use Rattle.wsm_journal.specs.Calls.{MayLeaveIn}
use Rattle.wsm_journal.proofs.Since.{goes_on, started}
use Rattle.wsm_journal.proofs.Folders.{in_sync_folder}
use Rattle.wsm_journal.proofs.journal_file.take_name.Goals as goal

pub returns-in_err-rename-clause-any_moment : goal.returns-in_err-rename-clause-any_moment
returns-in_err-rename-clause-any_moment g c =
    let f = g.F.JournalFolder.folder in
    let old = c.args.folder.now in
    let P = MayLeaveIn Rename (f old) in
    let begun = started g.F.JournalFolder.moment g.F.JournalFolder.left_since old P (λ left since. inl (g.met.F.JournalFolder.only_now old left since)) in
    goes_on g.F.JournalFolder.moment g.F.JournalFolder.left_since old old c.rename.new.self P P begun c.rename.ensures.time (λ left may. may)

pub returns-clause-any_moment : goal.returns-clause-any_moment
returns-clause-any_moment g c =
    let f = g.F.JournalFolder.folder in
    let old = c.args.folder.now in
    let mid = c.rename.new.self in
    let P = MayLeaveIn Rename (f old) in
    let begun = started g.F.JournalFolder.moment g.F.JournalFolder.left_since old P (λ left since. inl (g.met.F.JournalFolder.only_now old left since)) in
    let named = goes_on g.F.JournalFolder.moment g.F.JournalFolder.left_since old old mid P P begun c.rename.ensures.time (λ left may. may) in
    goes_on g.F.JournalFolder.moment g.F.JournalFolder.left_since old mid c.sync_folder.new.self P (MayLeaveIn SyncFolder (f mid)) named c.sync_folder.ensures.time (in_sync_folder (f old) (f mid) c.in_ok-rename.ensures.done)
