use Rattle.std.proofs.Common.{◌≡◌, ◌∙◌, inl, map, option_map}
use Rattle.wsm_journal.specs.Text.{journal_text}
use Rattle.wsm_journal.specs.Seen.{entry_seen}
use Rattle.wsm_journal.specs.Folder.{Rename, SyncFolder, settled}
use Rattle.wsm_journal.specs.Calls.{MayLeave, MayLeaveIn, called}
use Rattle.wsm_journal.specs.Kept.{IsLeftOr}
use Rattle.wsm_journal.proofs.Since.{joined_since, on_ok_then, weaker}
use Rattle.wsm_journal.proofs.Folders.{in_rename, renamed}
use Rattle.wsm_journal.proofs.journal_file.write_anew.Goals as goal

pub returns-in_err-write_beside-clause-any_moment : goal.returns-in_err-write_beside-clause-any_moment
returns-in_err-write_beside-clause-any_moment g c =
    let f = g.F.JournalFolder.folder in
    let old = c.args.folder.now in
    let entries = map entry_seen c.args.records.now in
    weaker g.F.JournalFolder.moment g.F.JournalFolder.left_since old c.write_beside.new.folder (MayLeave (f old)) (IsLeftOr (f old) entries) c.write_beside.ensures.any_moment (λ left may. inl may)

pub returns-clause-any_moment : goal.returns-clause-any_moment
returns-clause-any_moment g c =
    let f = g.F.JournalFolder.folder in
    let old = c.args.folder.now in
    let mid = c.write_beside.new.folder in
    let entries = map entry_seen c.args.records.now in
    let begun = weaker g.F.JournalFolder.moment g.F.JournalFolder.left_since old mid (MayLeave (f old)) (IsLeftOr (f old) entries) c.write_beside.ensures.any_moment (λ left may. inl may) in
    joined_since g.F.JournalFolder.moment g.F.JournalFolder.left_since old mid c.take_place.new.folder (IsLeftOr (f old) entries) (MayLeaveIn Rename (f mid)) begun c.take_place.ensures.any_moment (in_rename (f old) (f mid) entries c.in_ok-write_beside.ensures.done)

pub returns-clause-done : goal.returns-clause-done
returns-clause-done g c =
    let f = g.F.JournalFolder.folder in
    let old = f c.args.folder.now in
    let mid = f c.write_beside.new.folder in
    let new = f c.take_place.new.folder in
    let text = journal_text (map entry_seen c.args.records.now) in
    on_ok_then c.take_place.result (new ≡ called SyncFolder (called Rename mid)) (new ≡ option_map (λ _. settled text) old) (λ done. done ∙ renamed old mid text c.in_ok-write_beside.ensures.done) c.take_place.ensures.done
