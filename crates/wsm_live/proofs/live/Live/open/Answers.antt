use Rattle.std.proofs.Common.{◌≡◌, inl, subst, sym}
use Rattle.std.proofs.lemmas.Result.{IfErr-weaker, IfOk-weaker}
use Rattle.wsm_journal.specs.Folder.{Folder, bytes_of}
use Rattle.wsm_journal.specs.Calls.{IfKnown}
use Rattle.wsm_journal.specs.Kept.{IsLeftOrRead}
use Rattle.wsm_journal.proofs.Since.{weaker}
use Rattle.wsm_live.specs.Live.{IsLeftOpened}
use Rattle.wsm_live.proofs.LiveLemmas.{opened_since}
use Rattle.wsm_live.proofs.live.Live.open.Goals as goal

pub returns-in-Ok-clause-any_moment : goal.returns-in-Ok-clause-any_moment
returns-in-Ok-clause-any_moment g c =
    let f = g.F.JournalFolder.folder in
    let j = c.in-Ok.journal in
    let bytes = c.deref.result.now in
    let held = subst (λ t. IfKnown (f c.args.folder) (λ (d : Folder). t ≡ bytes_of d.journal)) (sym c.deref.ensures.value) c.in-Ok.ensures.bytes in
    IfOk-weaker c.opened.result _ _ (λ live begun. opened_since g.F.JournalFolder.moment g.F.JournalFolder.left_since f c.args.folder j.folder live.journal.folder j.last bytes c.args.head.now.bytes.items c.args.begin.now
    g.met.F.JournalFolder.counts_now held c.in-Ok.ensures.same c.in-Ok.ensures.settled c.in-Ok.ensures.any_moment begun) c.opened.ensures.any_moment

pub returns-in-Ok-clause-any_moment_err : goal.returns-in-Ok-clause-any_moment_err
returns-in-Ok-clause-any_moment_err g c =
    let f = g.F.JournalFolder.folder in
    let j = c.in-Ok.journal in
    let bytes = c.deref.result.now in
    let held = subst (λ t. IfKnown (f c.args.folder) (λ (d : Folder). t ≡ bytes_of d.journal)) (sym c.deref.ensures.value) c.in-Ok.ensures.bytes in
    IfErr-weaker c.opened.result _ _ (λ e begun. opened_since g.F.JournalFolder.moment g.F.JournalFolder.left_since f c.args.folder j.folder e.1 j.last bytes c.args.head.now.bytes.items c.args.begin.now
    g.met.F.JournalFolder.counts_now held c.in-Ok.ensures.same c.in-Ok.ensures.settled c.in-Ok.ensures.any_moment begun) c.opened.ensures.any_moment_err

pub returns-in-Err-clause-any_moment_err : goal.returns-in-Err-clause-any_moment_err
returns-in-Err-clause-any_moment_err g c =
    let f = g.F.JournalFolder.folder in
    weaker g.F.JournalFolder.moment g.F.JournalFolder.left_since c.args.folder c.in-Err.folder (IsLeftOrRead (f c.args.folder)) (IsLeftOpened (f c.args.folder) c.args.head.now.bytes.items c.args.begin.now)
    c.in-Err.ensures.any_moment_err (λ left was. inl was)
