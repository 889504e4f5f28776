use Rattle.std.proofs.Common.{◌≡◌, ◌∙◌, ap, inl, option_map, subst, sym}
use Rattle.wsm_journal.specs.Folder.{Folder, bytes_of}
use Rattle.wsm_journal.specs.Calls.{IfKnown, MayLeave}
use Rattle.wsm_journal.specs.Kept.{IsLeftOrRead, records_in}
use Rattle.wsm_journal.proofs.Since.{goes_on, joined_since, started}
use Rattle.wsm_journal.proofs.journal_file.begin.Goals as goal

pub returns-in_err-bytes-clause-any_moment : goal.returns-in_err-bytes-clause-any_moment
returns-in_err-bytes-clause-any_moment g c =
    let f = g.F.JournalFolder.folder in
    let old = c.args.folder.now in
    let P = IsLeftOrRead (f old) in
    let begun = started g.F.JournalFolder.moment g.F.JournalFolder.left_since old P (λ left since. inl (g.met.F.JournalFolder.only_now old left since)) in
    goes_on g.F.JournalFolder.moment g.F.JournalFolder.left_since old old c.read.new.self P (MayLeave (f old)) begun c.read.ensures.time (λ left may. inl may)

pub begin_with-requires : goal.begin_with-requires
begin_with-requires g c = subst (λ h. IfKnown h (λ (d : Folder). c.deref.result.now ≡ bytes_of d.journal)) (sym c.read.ensures.same) (subst (λ t. IfKnown (g.F.JournalFolder.folder c.args.folder.now) (λ (d : Folder). t ≡ bytes_of d.journal)) (sym c.deref.ensures.value) c.in_ok-bytes.ensures.bytes)

pub returns-in_err-last-clause-any_moment : goal.returns-in_err-last-clause-any_moment
returns-in_err-last-clause-any_moment g c =
    let f = g.F.JournalFolder.folder in
    let old = c.args.folder.now in
    let mid = c.read.new.self in
    let P = IsLeftOrRead (f old) in
    let begun = started g.F.JournalFolder.moment g.F.JournalFolder.left_since old P (λ left since. inl (g.met.F.JournalFolder.only_now old left since)) in
    let read = goes_on g.F.JournalFolder.moment g.F.JournalFolder.left_since old old mid P (MayLeave (f old)) begun c.read.ensures.time (λ left may. inl may) in
    joined_since g.F.JournalFolder.moment g.F.JournalFolder.left_since old mid c.begin_with.new.folder P (IsLeftOrRead (f mid)) read c.begin_with.ensures.any_moment (λ left may. subst (λ h. IsLeftOrRead h left) c.read.ensures.same may)

pub returns-clause-any_moment : goal.returns-clause-any_moment
returns-clause-any_moment g c =
    let f = g.F.JournalFolder.folder in
    let old = c.args.folder.now in
    let mid = c.read.new.self in
    let P = IsLeftOrRead (f old) in
    let begun = started g.F.JournalFolder.moment g.F.JournalFolder.left_since old P (λ left since. inl (g.met.F.JournalFolder.only_now old left since)) in
    let read = goes_on g.F.JournalFolder.moment g.F.JournalFolder.left_since old old mid P (MayLeave (f old)) begun c.read.ensures.time (λ left may. inl may) in
    joined_since g.F.JournalFolder.moment g.F.JournalFolder.left_since old mid c.begin_with.new.folder P (IsLeftOrRead (f mid)) read c.begin_with.ensures.any_moment (λ left may. subst (λ h. IsLeftOrRead h left) c.read.ensures.same may)

pub returns-clause-same : goal.returns-clause-same
returns-clause-same g c = c.in_ok-last.ensures.same ∙ ap (λ h. option_map records_in h) c.read.ensures.same
