use Rattle.std.proofs.Common.{◌∙◌, None, ap, inl, map, subst, sym}
use Rattle.wsm_journal.specs.Text.{AreRecords}
use Rattle.wsm_journal.specs.Reading.{Reading}
use Rattle.wsm_journal.specs.Seen.{entry_seen}
use Rattle.wsm_journal.specs.Kept.{IsLeftOrRead}
use Rattle.wsm_journal.proofs.Since.{started, weaker}
use Rattle.wsm_journal.proofs.Folders.{opened_leaves_of, opened_same, told_damage}
use Rattle.wsm_journal.proofs.journal_file.begin_with.Goals as goal

pub returns-in_err-journal-clause-any_moment : goal.returns-in_err-journal-clause-any_moment
returns-in_err-journal-clause-any_moment g c =
    let old = c.args.folder.now in
    started g.F.JournalFolder.moment g.F.JournalFolder.left_since old (IsLeftOrRead (g.F.JournalFolder.folder old)) (λ left since. inl (g.met.F.JournalFolder.only_now old left since))

pub returns-then-is_damage-clause-any_moment : goal.returns-then-is_damage-clause-any_moment
returns-then-is_damage-clause-any_moment g c =
    let old = c.args.folder.now in
    started g.F.JournalFolder.moment g.F.JournalFolder.left_since old (IsLeftOrRead (g.F.JournalFolder.folder old)) (λ left since. inl (g.met.F.JournalFolder.only_now old left since))

pub returns-then-is_damage-clause-damaged : goal.returns-then-is_damage-clause-damaged
returns-then-is_damage-clause-damaged g c = λ err. told_damage (g.F.JournalFolder.folder c.args.folder.now) c.args.bytes.now c.requires (sym (ap (λ (r : Reading). r.behind) c.in_ok-journal.ensures.value) ∙ c.is_damage.ensures c.if-is_damage.true)

pub replace_all-requires : goal.replace_all-requires
replace_all-requires g c = subst (λ (rs : _). AreRecords None (map entry_seen rs)) (sym c.deref.ensures.value) c.in_ok-journal.ensures.records

pub returns-in_err-replace_all-clause-any_moment : goal.returns-in_err-replace_all-clause-any_moment
returns-in_err-replace_all-clause-any_moment g c =
    let old = c.args.folder.now in
    let read = ap (λ rs. map entry_seen rs) c.deref.ensures.value ∙ ap (λ (r : Reading). r.entries) c.in_ok-journal.ensures.value in
    weaker g.F.JournalFolder.moment g.F.JournalFolder.left_since old c.replace_all.new.folder _ (IsLeftOrRead (g.F.JournalFolder.folder old)) c.replace_all.ensures.any_moment
    (opened_leaves_of (g.F.JournalFolder.folder old) c.args.bytes.now _ read c.requires)

pub returns-clause-any_moment : goal.returns-clause-any_moment
returns-clause-any_moment g c =
    let old = c.args.folder.now in
    let read = ap (λ rs. map entry_seen rs) c.deref.ensures.value ∙ ap (λ (r : Reading). r.entries) c.in_ok-journal.ensures.value in
    weaker g.F.JournalFolder.moment g.F.JournalFolder.left_since old c.replace_all.new.folder _ (IsLeftOrRead (g.F.JournalFolder.folder old)) c.replace_all.ensures.any_moment
    (opened_leaves_of (g.F.JournalFolder.folder old) c.args.bytes.now _ read c.requires)

pub returns-clause-same : goal.returns-clause-same
returns-clause-same g c =
    let read = ap (λ rs. map entry_seen rs) c.deref.ensures.value ∙ ap (λ (r : Reading). r.entries) c.in_ok-journal.ensures.value in
    c.in_ok-replace_all.ensures.records ∙ opened_same (g.F.JournalFolder.folder c.args.folder.now) c.args.bytes.now _ read c.requires
