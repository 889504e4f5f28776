use Rattle.std.proofs.Common.{◌≡◌, get_or, sym, ap, ◌∙◌, arith}
use Rattle.std.specs.Ordering.{is_gt}
use Rattle.wsm_semantics.specs.Relation.{row_cmp}
use Rattle.wsm_relation.specs.Delta.{row_at, rows_of, steps_in}
use Rattle.wsm_semantics.proofs.RowOrder.{not_greater}
use Rattle.wsm_relation.proofs.Places.{passed-within, stops}
use Rattle.wsm_relation.proofs.Entries.{length-steps_in, length-rows_of, row_of_step, no_step, step_there}
use Rattle.wsm_relation.proofs.finding.place_within.Goals as goal

pub returns-in_default-clause-place : goal.returns-in_default-clause-place
returns-in_default-clause-place c =
    let rows = rows_of (steps_in c.args.rows.now c.args.steps.now) in
    let step = get_or c.args.steps.now c.loop-high.high no_step in
    let row = row_at c.args.rows.now step.place in
    let within = c.loop-high-test.true in
    let here : get_or rows c.loop-high.high row ≡ row = row_of_step c.args.rows.now c.args.steps.now c.loop-high.high step within (step_there c.args.steps.now c.loop-high.high within) in
    let compared : row_cmp c.args.row.now (get_or rows c.loop-high.high row) ≡ c.row_order.result = ap (row_cmp c.args.row.now) (here ∙ sym c.cells_at.ensures) ∙ sym c.row_order.ensures in
    stops rows c.loop-high.high row c.args.row.now (omega (arith, length-rows_of c.args.rows.now (steps_in c.args.rows.now c.args.steps.now), length-steps_in c.args.rows.now c.args.steps.now, within)) (ap is_gt compared ∙ not_greater c.row_order.result c.in_default.not-Greater)

pub returns-clause-place : goal.returns-clause-place
returns-clause-place c =
    let rows = rows_of (steps_in c.args.rows.now c.args.steps.now) in
    omega (arith, passed-within c.args.row.now rows, length-rows_of c.args.rows.now (steps_in c.args.rows.now c.args.steps.now), length-steps_in c.args.rows.now c.args.steps.now)
