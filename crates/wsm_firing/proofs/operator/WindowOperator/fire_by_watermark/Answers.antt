use Rattle.std.proofs.Common.{◌≡◌, ◌++◌, List, ap, ◌∙◌, SFits, w64, to_z-of_z, rules}
use Rattle.wsm_record.specs.declared.cell.Cell.{Cell}
use Rattle.wsm_windows.specs.declared.place.Place.{Place}
use Rattle.wsm_semantics.specs.Summaries.{withdrawn_by_watermark}
use Rattle.wsm_machine.specs.Meaning.{query_of}
use Rattle.wsm_semantics.specs.declared.out_row.OutRow.{OutRow}
use Rattle.wsm_panes.specs.Held.{entries_of}
use Rattle.wsm_firing.specs.ByWatermark.{fires_by_watermark}
use Rattle.wsm_firing.specs.Firing.{rows_of}
use Rattle.wsm_firing.proofs.LeftToFire.{tally_all}
use Rattle.wsm_firing.proofs.RowsByMode.{turn_is}
use Rattle.wsm_firing.proofs.operator.WindowOperator.fire_by_watermark.Goals as goal

pub returns : goal.returns
returns c =
    let old : SFits w64 c.args.old = c.ranges.old in let new : SFits w64 c.args.new = c.ranges.new in
    let p = c.args.verified.now in let es = entries_of c.args.self.now.state.held in let fs = fires_by_watermark p c.args.old c.args.new es in
    let more : List (Place × List Cell) = withdrawn_by_watermark (query_of p) c.args.old c.args.new es in
    let behind : c.fire_due.new.self.state.rows.written ≡ c.retract_by_watermark.new.rows.written ++ rows_of p fs = simp to_z-of_z at c.fire_due.ensures.rows in
    record {
      panes = simp to_z-of_z at c.fire_due.ensures.panes;
      keeps = c.fire_due.ensures.keeps;
      tells = c.fire_due.ensures.tells;
      rows = λ ws is.
          behind ∙ ap (λ (rs : List OutRow). rs ++ rows_of p fs) (simp to_z-of_z at c.retract_by_watermark.ensures.rows ws is) ∙ turn_is p c.retract_by_watermark.ensures.form (ws ++ more) fs;
      room = c.fire_due.ensures.room ∙ c.retract_by_watermark.ensures.room;
      tally = simp to_z-of_z at c.fire_due.ensures.tally ∙ tally_all p fs;
    }

pub fire_due-requires-clause-can : goal.fire_due-requires-clause-can
fire_due-requires-clause-can c = record { ready = c.requires.ready; can = search rules }
