use Rattle.std.proofs.Common.{◌∙◌, ap}
use Rattle.wsm_semantics.specs.declared.ending.Totals.{Totals}
use Rattle.wsm_semantics.specs.Lines.{events}
use Rattle.wsm.proofs.RowTurns.{rows_counted}
use Rattle.wsm.proofs.turns.Turns.row_count.Goals as goal

pub returns : goal.returns
returns c = λ p rows fits.
    c.saturating_add.ensures ∙ rows_counted rows _ c.args.self.now.faults (ap (λ (t : Totals). t.rows) (c.totals-events.ensures (events rows) fits.engine.fits)) fits.faults
