use Rattle.std.proofs.Common.{◌∙◌, List, ℕ, ap}
use Rattle.wsm_live.specs.Head.{own_row}
use Rattle.wsm_journal.specs.Kept.{records_of}
use Rattle.wsm_live.proofs.RunLemmas.{some_chunk}
use Rattle.wsm_live.proofs.LiveLemmas.{gone_on, stays_begun}
use Rattle.wsm_live.proofs.live.Live.go_on.Goals as goal

pub rest_of-chunks-requires : goal.rest_of-chunks-requires
rest_of-chunks-requires g c = some_chunk c.args.records.now c.args.first.now c.requires.first

pub returns-clause-records : goal.returns-clause-records
returns-clause-records g c = λ begin.
    let journal = c.args.self.now.journal in
    stays_begun journal.last c.args.head.now.bytes.items begin c.args.records.now c.args.first.now (records_of g.F.JournalFolder.folder journal) c.requires.first

pub returns-clause-gone_on : goal.returns-clause-gone_on
returns-clause-gone_on g c = λ begin.
    let rows = c.args.first.now.rows.now in
    gone_on c.args.records.now c.rest_of-chunks.result.now c.args.first.now c.requires.first c.rest_of-chunks.ensures c.in_ok-take_all.ensures.takes c.take_all.ensures.longest
    (c.in_ok-put.ensures ∙ c.own_row.ensures ∙ ap (λ (h : List ℕ). own_row h rows) c.bytes.ensures.value) (c.in_ok-put-2.ensures ∙ c.name_in.ensures) (c.in_ok-put-3.ensures ∙ c.position_behind.ensures)
