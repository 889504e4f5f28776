use Rattle.std.proofs.Common.{◌≡◌, ◌+◌, ◌-◌, ◌/◌, ◌<◌, length, get_or, sym, ap, ◌∙◌, arith}
use Rattle.std.specs.declared.cmp.Ordering.TheVariants.{Greater}
use Rattle.std.specs.Ordering.{is_gt}
use Rattle.wsm_semantics.specs.Relation.{row_cmp}
use Rattle.wsm_relation.specs.Rows.{passed}
use Rattle.wsm_relation.specs.Delta.{row_at, rows_of, steps_in}
use Rattle.wsm_semantics.proofs.RowOrder.{not_greater}
use Rattle.wsm_relation.proofs.Places.{passes, stops}
use Rattle.wsm_relation.proofs.Entries.{length-steps_in, length-rows_of, row_of_step, no_step, step_there}
use Rattle.wsm_relation.proofs.finding.place_among.Goals as goal

pub loop-low-init : goal.loop-low-init
loop-low-init c = record {
  low = omega arith;
  high = c.place_within-high.ensures.place;
  within = c.place_within-high.ensures.within;
}

pub loop-low-preserved-in-Greater : goal.loop-low-preserved-in-Greater
loop-low-preserved-in-Greater c =
    let rows = rows_of (steps_in c.args.rows.now c.args.steps.now) in
    let middle = c.loop-low.low + (c.loop-low.high - c.loop-low.low) / 2 in
    let step = get_or c.args.steps.now middle no_step in
    let row = row_at c.args.rows.now step.place in
    let within : middle < length c.args.steps.now = omega (arith, c.loop-low.invariant.within) in
    let here : get_or rows middle row ≡ row = row_of_step c.args.rows.now c.args.steps.now middle step within (step_there c.args.steps.now middle within) in
    let compared : row_cmp c.args.row.now (get_or rows middle row) ≡ Greater = ap (row_cmp c.args.row.now) (here ∙ sym c.cells_at.ensures) ∙ sym c.row_order.ensures ∙ c.in-Greater.is in
    let past : middle < passed c.args.row.now rows = passes rows middle row c.args.row.now c.requires (omega (arith, length-rows_of c.args.rows.now (steps_in c.args.rows.now c.args.steps.now), length-steps_in c.args.rows.now c.args.steps.now)) (ap is_gt compared) in
    record {
      low = omega arith;
      high = c.loop-low.invariant.high;
      within = c.loop-low.invariant.within;
    }

pub loop-low-preserved : goal.loop-low-preserved
loop-low-preserved c =
    let rows = rows_of (steps_in c.args.rows.now c.args.steps.now) in
    let middle = c.loop-low.low + (c.loop-low.high - c.loop-low.low) / 2 in
    let step = get_or c.args.steps.now middle no_step in
    let row = row_at c.args.rows.now step.place in
    let within : middle < length c.args.steps.now = omega (arith, c.loop-low.invariant.within) in
    let here : get_or rows middle row ≡ row = row_of_step c.args.rows.now c.args.steps.now middle step within (step_there c.args.steps.now middle within) in
    let compared : row_cmp c.args.row.now (get_or rows middle row) ≡ c.row_order.result = ap (row_cmp c.args.row.now) (here ∙ sym c.cells_at.ensures) ∙ sym c.row_order.ensures in
    record {
      low = c.loop-low.invariant.low;
      high = stops rows middle row c.args.row.now (omega (arith, length-rows_of c.args.rows.now (steps_in c.args.rows.now c.args.steps.now), length-steps_in c.args.rows.now c.args.steps.now)) (ap is_gt compared ∙ not_greater c.row_order.result c.in_default.not-Greater);
      within = omega arith;
    }
