use Rattle.std.proofs.Common.{◌∙◌, List, ℕ, ap, inl, map, subst, sym}
use Rattle.wsm_journal.specs.Seen.{entry_seen}
use Rattle.wsm_journal.specs.Calls.{LeavesSince}
use Rattle.wsm_journal.proofs.Since.{started}
use Rattle.wsm_live.specs.declared.live.Front.{Front}
use Rattle.wsm_live.specs.Live.{IsLeftBegun, Resumed}
use Rattle.wsm_live.proofs.LiveLemmas as lemmas
use Rattle.wsm_live.proofs.live.Live.opened_by.Goals as goal

pub returns-in-Ok-take_records-clause-opened : goal.returns-in-Ok-take_records-clause-opened
returns-in-Ok-take_records-clause-opened g c =
    let behind = subst (λ (h : List ℕ). Resumed g.T.LineTaker.turn g.T.LineTaker.stands g.T.LineTaker.states h (map entry_seen c.args.records.now) c.args.run c.in-Ok.run') c.bytes.ensures.value c.in-Ok.ensures in
    let front = c.in-Ok-take_records.ensures.front in
    lemmas.opened_by behind c.in-Ok-take_records.ensures.gone_on (λ by before is. record {
      count = ap (λ (f : Front). f.count) front ∙ c.count.ensures by before is;
      sum = ap (λ (f : Front). f.sum) front ∙ c.sum.ensures by before is;
    })

pub returns-in-Err-clause-any_moment_err : goal.returns-in-Err-clause-any_moment_err
returns-in-Err-clause-any_moment_err g c =
    let j = c.args.journal in
    let P = IsLeftBegun (g.F.JournalFolder.folder j.folder) (map entry_seen c.args.records.now) j.last c.args.head.now.bytes.items c.args.begin.now in
    subst (λ f. LeavesSince g.F.JournalFolder.moment g.F.JournalFolder.left_since j.folder f P) (sym c.into_folder-in-Err.ensures)
    (started g.F.JournalFolder.moment g.F.JournalFolder.left_since j.folder P (λ left since. inl (g.met.F.JournalFolder.only_now j.folder left since)))
