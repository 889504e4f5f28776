use Rattle.std.proofs.Common.{inl}
use Rattle.wsm_journal.specs.Folder.{Append, Sync}
use Rattle.wsm_journal.specs.Calls.{MayLeaveIn}
use Rattle.wsm_journal.specs.Kept.{MayLeaveSynced}
use Rattle.wsm_journal.proofs.Since.{goes_on, started}
use Rattle.wsm_journal.proofs.Folders.{in_synced}
use Rattle.wsm_journal.proofs.journal_file.append_synced.Goals as goal

pub returns-in_err-append-clause-any_moment : goal.returns-in_err-append-clause-any_moment
returns-in_err-append-clause-any_moment g c =
    let f = g.F.JournalFolder.folder in
    let old = c.args.folder.now in
    let P = MayLeaveSynced c.args.bytes.now (f old) in
    let begun = started g.F.JournalFolder.moment g.F.JournalFolder.left_since old P (λ left since. inl (inl (g.met.F.JournalFolder.only_now old left since))) in
    goes_on g.F.JournalFolder.moment g.F.JournalFolder.left_since old old c.append.new.self P (MayLeaveIn (Append c.args.bytes.now) (f old)) begun c.append.ensures.time (λ left may. inl may)

pub returns-clause-any_moment : goal.returns-clause-any_moment
returns-clause-any_moment g c =
    let f = g.F.JournalFolder.folder in
    let old = c.args.folder.now in
    let mid = c.append.new.self in
    let P = MayLeaveSynced c.args.bytes.now (f old) in
    let begun = started g.F.JournalFolder.moment g.F.JournalFolder.left_since old P (λ left since. inl (inl (g.met.F.JournalFolder.only_now old left since))) in
    let added = goes_on g.F.JournalFolder.moment g.F.JournalFolder.left_since old old mid P (MayLeaveIn (Append c.args.bytes.now) (f old)) begun c.append.ensures.time (λ left may. inl may) in
    goes_on g.F.JournalFolder.moment g.F.JournalFolder.left_since old mid c.sync.new.self P (MayLeaveIn Sync (f mid)) added c.sync.ensures.time (in_synced c.args.bytes.now (f old) (f mid) c.in_ok-append.ensures.done)
