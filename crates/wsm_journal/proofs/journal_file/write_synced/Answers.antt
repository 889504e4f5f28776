use Rattle.std.proofs.Common.{◌≡◌, ◌∙◌, [], ap, option_map, refl}
use Rattle.wsm_journal.specs.Folder.{CreateNext, SyncNext, WriteNext, file_with}
use Rattle.wsm_journal.specs.Kept.{with_next}
use Rattle.wsm_journal.specs.Calls.{MayLeave, MayLeaveIn, called}
use Rattle.wsm_journal.proofs.Since.{goes_on, on_ok_then, started}
use Rattle.wsm_journal.proofs.Folders.{created_names, in_next, next_done, synced_names, written_names}
use Rattle.wsm_journal.proofs.journal_file.write_synced.Goals as goal

pub returns-in_err-create_next-clause-any_moment : goal.returns-in_err-create_next-clause-any_moment
returns-in_err-create_next-clause-any_moment g c =
    let f = g.F.JournalFolder.folder in
    let old = c.args.folder.now in
    let P = MayLeave (f old) in
    let begun = started g.F.JournalFolder.moment g.F.JournalFolder.left_since old P (λ left since. g.met.F.JournalFolder.only_now old left since) in
    goes_on g.F.JournalFolder.moment g.F.JournalFolder.left_since old old c.create_next.new.self P (MayLeaveIn CreateNext (f old)) begun c.create_next.ensures.time (in_next (f old) (f old) _ refl (created_names (f old)))

pub returns-in_err-write_next-clause-any_moment : goal.returns-in_err-write_next-clause-any_moment
returns-in_err-write_next-clause-any_moment g c =
    let f = g.F.JournalFolder.folder in
    let old = c.args.folder.now in
    let one = c.create_next.new.self in
    let P = MayLeave (f old) in
    let begun = started g.F.JournalFolder.moment g.F.JournalFolder.left_since old P (λ left since. g.met.F.JournalFolder.only_now old left since) in
    let created = goes_on g.F.JournalFolder.moment g.F.JournalFolder.left_since old old one P (MayLeaveIn CreateNext (f old)) begun c.create_next.ensures.time (in_next (f old) (f old) _ refl (created_names (f old))) in
    goes_on g.F.JournalFolder.moment g.F.JournalFolder.left_since old one c.write_next.new.self P (MayLeaveIn (WriteNext c.args.bytes.now) (f one)) created c.write_next.ensures.time (in_next (f old) (f one) _ c.create_next.ensures.names (written_names c.args.bytes.now (f one)))

pub returns-clause-any_moment : goal.returns-clause-any_moment
returns-clause-any_moment g c =
    let f = g.F.JournalFolder.folder in
    let old = c.args.folder.now in
    let one = c.create_next.new.self in
    let two = c.write_next.new.self in
    let P = MayLeave (f old) in
    let begun = started g.F.JournalFolder.moment g.F.JournalFolder.left_since old P (λ left since. g.met.F.JournalFolder.only_now old left since) in
    let created = goes_on g.F.JournalFolder.moment g.F.JournalFolder.left_since old old one P (MayLeaveIn CreateNext (f old)) begun c.create_next.ensures.time (in_next (f old) (f old) _ refl (created_names (f old))) in
    let written = goes_on g.F.JournalFolder.moment g.F.JournalFolder.left_since old one two P (MayLeaveIn (WriteNext c.args.bytes.now) (f one)) created c.write_next.ensures.time (in_next (f old) (f one) _ c.create_next.ensures.names (written_names c.args.bytes.now (f one))) in
    goes_on g.F.JournalFolder.moment g.F.JournalFolder.left_since old two c.sync_next.new.self P (MayLeaveIn SyncNext (f two)) written c.sync_next.ensures.time (in_next (f old) (f two) _ (c.write_next.ensures.names ∙ c.create_next.ensures.names) (synced_names (f two)))

pub returns-clause-done : goal.returns-clause-done
returns-clause-done g c =
    let f = g.F.JournalFolder.folder in
    let old = f c.args.folder.now in
    let two = f c.write_next.new.self in
    let new = f c.sync_next.new.self in
    let written = ap (λ h. called SyncNext h) (c.in_ok-write_next.ensures.done ∙ ap (λ h. called (WriteNext c.args.bytes.now) h) c.in_ok-create_next.ensures.done) ∙ next_done c.args.bytes.now old in
    on_ok_then c.sync_next.result (new ≡ called SyncNext two) (new ≡ option_map (with_next (file_with c.args.bytes.now [])) old) (λ done. done ∙ written) c.sync_next.ensures.done
