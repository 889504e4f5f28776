use Rattle.std.proofs.Common.{◌∙◌, ap}
use Rattle.wsm_semantics.specs.declared.ending.Totals.{Totals}
use Rattle.wsm_semantics.specs.Lines.{events}
use Rattle.wsm.proofs.RowTurns.{rows_counted}
use Rattle.wsm_keyed_run.proofs.turns.KeyedTurns.row_count.Goals as goal

pub returns : goal.returns
returns c = λ p rows counts.
    let self = c.args.self.now in
    c.saturating_add.ensures ∙ rows_counted rows _ self.faults (ap (λ (t : Totals). t.rows) (c.totals-events.ensures p self.events.names (events rows) counts.parts)) counts.faults
