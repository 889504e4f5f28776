use Rattle.std.proofs.Common.{List, drop, map, subst}
use Rattle.std.specs.Prelude.{IfOk}
use Rattle.wsm_journal.specs.Text.{Entry}
use Rattle.wsm_journal.specs.Seen.{entry_seen}
use Rattle.wsm_live.specs.Live.{Resumed}
use Rattle.wsm_live.proofs.LiveLemmas.{first_entry, resumed_none}
use Rattle.wsm_live.proofs.live.resumed.Goals as goal

pub returns-in-Some : goal.returns-in-Some
returns-in-Some g c =
    subst (λ (es : List Entry). IfOk c.resumed_behind.result (λ r. Resumed g.T.LineTaker.turn g.T.LineTaker.stands g.T.LineTaker.states c.args.head.now es c.args.run r))
    (first_entry c.args.records.now c.in-Some.first.now c.in-Some.ensures.value) (c.resumed_behind.ensures (map entry_seen (drop 1 c.args.records.now)))

pub returns-in-None : goal.returns-in-None
returns-in-None g c = resumed_none g.T.LineTaker.turn g.T.LineTaker.stands g.T.LineTaker.states c.args.head.now c.args.run c.args.records.now c.in-None.ensures.value
