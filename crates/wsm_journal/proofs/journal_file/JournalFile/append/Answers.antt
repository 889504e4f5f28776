use Rattle.std.proofs.Common.{◌∙◌, Some, refl, subst, sym, arith}
use Rattle.wsm_journal.specs.Calls.{IfKnown}
use Rattle.wsm_journal.specs.Kept.{HasOneMore, IsSettledAt, entry_behind}
use Rattle.wsm_journal.proofs.Since.{started, weaker}
use Rattle.wsm_journal.proofs.Folders.{added_leaves_by, added_records, added_settled, its_text, kept_leaves, one_record}
use Rattle.wsm_journal.proofs.journal_file.JournalFile.append.Goals as goal

pub returns-in_err-number-clause-any_moment : goal.returns-in_err-number-clause-any_moment
returns-in_err-number-clause-any_moment g c =
    let f = g.F.JournalFolder.folder in
    let s = c.args.self.now in
    let e = entry_behind s.last c.args.lines c.args.rows.now c.args.position.now in
    started g.F.JournalFolder.moment g.F.JournalFolder.left_since s.folder (HasOneMore (f s.folder) e) (λ left since. kept_leaves (f s.folder) s.last e c.requires.settled left (g.met.F.JournalFolder.only_now s.folder left since))

pub returns-in_err-write_text-clause-any_moment : goal.returns-in_err-write_text-clause-any_moment
returns-in_err-write_text-clause-any_moment g c =
    let f = g.F.JournalFolder.folder in
    let s = c.args.self.now in
    let e = entry_behind s.last c.args.lines c.args.rows.now c.args.position.now in
    started g.F.JournalFolder.moment g.F.JournalFolder.left_since s.folder (HasOneMore (f s.folder) e) (λ left since. kept_leaves (f s.folder) s.last e c.requires.settled left (g.met.F.JournalFolder.only_now s.folder left since))

pub returns-in_err-append_synced-clause-any_moment : goal.returns-in_err-append_synced-clause-any_moment
returns-in_err-append_synced-clause-any_moment g c =
    let f = g.F.JournalFolder.folder in
    let s = c.args.self.now in
    let e = entry_behind s.last c.args.lines c.args.rows.now c.args.position.now in
    let is = c.in_ok-number.ensures.number in
    let one = one_record s.last c.in_ok-number.number c.args.lines c.args.rows.now c.args.position.now is (omega arith) (omega arith) (omega arith) c.requires.rows c.requires.position c.in_ok-write_text.ensures.sum in
    let text = c.deref.ensures.value ∙ c.in_ok-write_text.ensures.text ∙ its_text s.last c.in_ok-number.number c.args.lines c.args.rows.now c.args.position.now is in
    weaker g.F.JournalFolder.moment g.F.JournalFolder.left_since s.folder c.append_synced.new.folder _ (HasOneMore (f s.folder) e) c.append_synced.ensures.any_moment (added_leaves_by (f s.folder) s.last e _ c.requires.settled one refl text)

pub returns-clause-any_moment : goal.returns-clause-any_moment
returns-clause-any_moment g c =
    let f = g.F.JournalFolder.folder in
    let s = c.args.self.now in
    let e = entry_behind s.last c.args.lines c.args.rows.now c.args.position.now in
    let is = c.in_ok-number.ensures.number in
    let one = one_record s.last c.in_ok-number.number c.args.lines c.args.rows.now c.args.position.now is (omega arith) (omega arith) (omega arith) c.requires.rows c.requires.position c.in_ok-write_text.ensures.sum in
    let text = c.deref.ensures.value ∙ c.in_ok-write_text.ensures.text ∙ its_text s.last c.in_ok-number.number c.args.lines c.args.rows.now c.args.position.now is in
    weaker g.F.JournalFolder.moment g.F.JournalFolder.left_since s.folder c.append_synced.new.folder _ (HasOneMore (f s.folder) e) c.append_synced.ensures.any_moment (added_leaves_by (f s.folder) s.last e _ c.requires.settled one refl text)

pub returns-clause-settled : goal.returns-clause-settled
returns-clause-settled g c =
    let f = g.F.JournalFolder.folder in
    let s = c.args.self.now in
    let e = entry_behind s.last c.args.lines c.args.rows.now c.args.position.now in
    let is = c.in_ok-number.ensures.number in
    let one = one_record s.last c.in_ok-number.number c.args.lines c.args.rows.now c.args.position.now is (omega arith) (omega arith) (omega arith) c.requires.rows c.requires.position c.in_ok-write_text.ensures.sum in
    let text = c.deref.ensures.value ∙ c.in_ok-write_text.ensures.text ∙ its_text s.last c.in_ok-number.number c.args.lines c.args.rows.now c.args.position.now is in
    subst (λ n. IfKnown (f c.append_synced.new.folder) (IsSettledAt (Some n))) (sym is) (added_settled (f s.folder) (f c.append_synced.new.folder) s.last e _ c.requires.settled one refl text c.in_ok-append_synced.ensures.done)

pub returns-clause-appended : goal.returns-clause-appended
returns-clause-appended g c =
    let f = g.F.JournalFolder.folder in
    let s = c.args.self.now in
    let e = entry_behind s.last c.args.lines c.args.rows.now c.args.position.now in
    let is = c.in_ok-number.ensures.number in
    let one = one_record s.last c.in_ok-number.number c.args.lines c.args.rows.now c.args.position.now is (omega arith) (omega arith) (omega arith) c.requires.rows c.requires.position c.in_ok-write_text.ensures.sum in
    let text = c.deref.ensures.value ∙ c.in_ok-write_text.ensures.text ∙ its_text s.last c.in_ok-number.number c.args.lines c.args.rows.now c.args.position.now is in
    added_records (f s.folder) (f c.append_synced.new.folder) s.last e _ c.requires.settled one refl text c.in_ok-append_synced.ensures.done
