use Rattle.std.proofs.Common.{List, OnOk, inl, map, subst, sym}
use Rattle.wsm_journal.specs.Text.{Entry}
use Rattle.wsm_journal.specs.Seen.{entry_seen}
use Rattle.wsm_journal.specs.Calls.{LeavesSince}
use Rattle.wsm_journal.specs.Kept.{HasOneMore, entry_behind, records_of}
use Rattle.wsm_journal.proofs.Since.{started, weaker}
use Rattle.wsm_live.specs.Live.{GoneOn, IsBegun, IsLeftBegun}
use Rattle.wsm_live.proofs.LiveLemmas.{no_record, one_begun}
use Rattle.wsm_live.proofs.live.Live.take_records.Goals as goal

pub returns-in-None-clause-records : goal.returns-in-None-clause-records
returns-in-None-clause-records g c =
    let records = records_of g.F.JournalFolder.folder in
    let old = c.args.self.now in
    let new = c.begin_anew.new.self in
    subst (λ (es : List Entry). OnOk c.begin_anew.result (IsBegun es old.journal.last c.args.head.now.bytes.items c.args.begin.now (records old.journal) (records new.journal)))
    (no_record c.args.records.now c.in-None.ensures.value) c.begin_anew.ensures.records

pub returns-in-None-clause-gone_on : goal.returns-in-None-clause-gone_on
returns-in-None-clause-gone_on g c =
    let out = c.args.out.now.items in
    subst (λ (es : List Entry). OnOk c.begin_anew.result (GoneOn g.T.LineTaker.turn g.T.LineTaker.stands c.args.head.now.bytes.items c.args.begin.now es c.args.self.now.run c.begin_anew.new.self out out))
    (no_record c.args.records.now c.in-None.ensures.value) (c.begin_anew.ensures.gone_on out)

pub returns-in-Some-clause-any_moment : goal.returns-in-Some-clause-any_moment
returns-in-Some-clause-any_moment g c =
    let j = c.args.self.now.journal in
    let P = IsLeftBegun (g.F.JournalFolder.folder j.folder) (map entry_seen c.args.records.now) j.last c.args.head.now.bytes.items c.args.begin.now in
    subst (λ k. LeavesSince g.F.JournalFolder.moment g.F.JournalFolder.left_since j.folder k.folder P) (sym c.go_on.ensures.others.0)
    (started g.F.JournalFolder.moment g.F.JournalFolder.left_since j.folder P (λ left since. inl (g.met.F.JournalFolder.only_now j.folder left since)))

pub returns-in-None-clause-any_moment : goal.returns-in-None-clause-any_moment
returns-in-None-clause-any_moment g c =
    let j = c.args.self.now.journal in
    let head = c.args.head.now.bytes.items in
    let begin = c.args.begin.now in
    let folder = g.F.JournalFolder.folder j.folder in
    weaker g.F.JournalFolder.moment g.F.JournalFolder.left_since j.folder c.begin_anew.new.self.journal.folder (HasOneMore folder (entry_behind j.last 0 head begin))
    (IsLeftBegun folder (map entry_seen c.args.records.now) j.last head begin) c.begin_anew.ensures.any_moment (one_begun folder j.last head begin c.args.records.now c.in-None.ensures.value)
