use Rattle.std.proofs.Common.{◌≡◌, ◌∙◌, List, ap, inl, map, subst, sym}
use Rattle.std.specs.Prelude.{IfErr, IfOk}
use Rattle.wsm_journal.specs.Text.{Entry}
use Rattle.wsm_journal.specs.Kept.{records_of}
use Rattle.wsm_journal.specs.Reading.{Reading, read_journal}
use Rattle.wsm_journal.specs.Seen.{entry_seen}
use Rattle.wsm_journal.specs.Calls.{LeavesSince}
use Rattle.wsm_journal.proofs.Since.{started}
use Rattle.wsm_live.specs.Live.{IsBegun, IsLeftBegun, Opened}
use Rattle.wsm_live.proofs.live.Live.opened.Goals as goal

pub returns-in-Ok-clause-records : goal.returns-in-Ok-clause-records
returns-in-Ok-clause-records g c =
    let read : map entry_seen c.deref.result.now ≡ (read_journal c.args.bytes.now).entries = ap (map entry_seen) c.deref.ensures.value ∙ ap (λ (r : Reading). r.entries) c.in-Ok.ensures.value in
    let records = records_of g.F.JournalFolder.folder in
    let j = c.args.journal in
    subst (λ (es : List Entry). IfOk c.opened_by.result (λ live. IsBegun es j.last c.args.head.now.bytes.items c.args.begin.now (records j) (records live.journal))) read c.opened_by.ensures.records

pub returns-in-Ok-clause-opened : goal.returns-in-Ok-clause-opened
returns-in-Ok-clause-opened g c =
    let read : map entry_seen c.deref.result.now ≡ (read_journal c.args.bytes.now).entries = ap (map entry_seen) c.deref.ensures.value ∙ ap (λ (r : Reading). r.entries) c.in-Ok.ensures.value in
    subst (λ (es : List Entry). IfOk c.opened_by.result (λ live. Opened g.T.LineTaker.turn g.T.LineTaker.stands g.T.LineTaker.states c.args.head.now.bytes.items c.args.begin.now es c.args.run live c.args.out.now.items c.opened_by.new.out.items)) read
    c.opened_by.ensures.opened

pub returns-in-Ok-clause-any_moment : goal.returns-in-Ok-clause-any_moment
returns-in-Ok-clause-any_moment g c =
    let read : map entry_seen c.deref.result.now ≡ (read_journal c.args.bytes.now).entries = ap (map entry_seen) c.deref.ensures.value ∙ ap (λ (r : Reading). r.entries) c.in-Ok.ensures.value in
    let j = c.args.journal in
    subst (λ (es : List Entry). IfOk c.opened_by.result (λ live. LeavesSince g.F.JournalFolder.moment g.F.JournalFolder.left_since j.folder live.journal.folder (IsLeftBegun (g.F.JournalFolder.folder j.folder) es j.last c.args.head.now.bytes.items c.args.begin.now))) read
    c.opened_by.ensures.any_moment

pub returns-in-Ok-clause-any_moment_err : goal.returns-in-Ok-clause-any_moment_err
returns-in-Ok-clause-any_moment_err g c =
    let read : map entry_seen c.deref.result.now ≡ (read_journal c.args.bytes.now).entries = ap (map entry_seen) c.deref.ensures.value ∙ ap (λ (r : Reading). r.entries) c.in-Ok.ensures.value in
    let j = c.args.journal in
    subst (λ (es : List Entry). IfErr c.opened_by.result (λ e. LeavesSince g.F.JournalFolder.moment g.F.JournalFolder.left_since j.folder e.1 (IsLeftBegun (g.F.JournalFolder.folder j.folder) es j.last c.args.head.now.bytes.items c.args.begin.now))) read
    c.opened_by.ensures.any_moment_err

pub returns-in-Err-clause-any_moment_err : goal.returns-in-Err-clause-any_moment_err
returns-in-Err-clause-any_moment_err g c =
    let j = c.args.journal in
    let P = IsLeftBegun (g.F.JournalFolder.folder j.folder) (read_journal c.args.bytes.now).entries j.last c.args.head.now.bytes.items c.args.begin.now in
    subst (λ f. LeavesSince g.F.JournalFolder.moment g.F.JournalFolder.left_since j.folder f P) (sym c.into_folder.ensures)
    (started g.F.JournalFolder.moment g.F.JournalFolder.left_since j.folder P (λ left since. inl (g.met.F.JournalFolder.only_now j.folder left since)))
