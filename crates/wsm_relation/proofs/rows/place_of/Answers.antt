use Rattle.std.proofs.Common.{◌≡◌, ◌+◌, ◌-◌, ◌/◌, ◌<◌, length, get_or, ap, ◌∙◌, arith}
use Rattle.std.specs.declared.cmp.Ordering.TheVariants.{Greater}
use Rattle.std.specs.Ordering.{is_gt}
use Rattle.wsm_semantics.specs.Relation.{row_cmp}
use Rattle.wsm_relation.specs.Rows.{rows_in, passed}
use Rattle.wsm_semantics.proofs.RowOrder.{not_greater}
use Rattle.wsm_relation.proofs.Places.{passed-within, passes, stops}
use Rattle.wsm_relation.proofs.Boxes.{length-rows_in, value_at}
use Rattle.wsm_relation.proofs.rows.place_of.Goals as goal

pub loop-low-init : goal.loop-low-init
loop-low-init c = record {
  low = omega arith;
  high = omega (arith, passed-within c.args.row.now (rows_in c.args.rows.now), length-rows_in c.args.rows.now);
  within = omega arith;
}

pub loop-low-preserved-in-Greater : goal.loop-low-preserved-in-Greater
loop-low-preserved-in-Greater c =
    let middle = c.loop-low.low + (c.loop-low.high - c.loop-low.low) / 2 in
    let box = c.index-rows-middle.result in
    let within : middle < length c.args.rows.now = omega (arith, c.loop-low.invariant.within) in
    let here : get_or (rows_in c.args.rows.now) middle box.value ≡ box.value = value_at c.args.rows.now middle box within c.index-rows-middle.is in
    let compared : row_cmp c.args.row.now (get_or (rows_in c.args.rows.now) middle box.value) ≡ Greater = cc in
    let past : middle < passed c.args.row.now (rows_in c.args.rows.now) = passes (rows_in c.args.rows.now) middle box.value c.args.row.now c.requires (omega (arith, length-rows_in c.args.rows.now)) (ap is_gt compared) in
    record {
      low = omega arith;
      high = c.loop-low.invariant.high;
      within = c.loop-low.invariant.within;
    }

pub loop-low-preserved : goal.loop-low-preserved
loop-low-preserved c =
    let middle = c.loop-low.low + (c.loop-low.high - c.loop-low.low) / 2 in
    let box = c.index-rows-middle.result in
    let within : middle < length c.args.rows.now = omega (arith, c.loop-low.invariant.within) in
    let here : get_or (rows_in c.args.rows.now) middle box.value ≡ box.value = value_at c.args.rows.now middle box within c.index-rows-middle.is in
    let compared : row_cmp c.args.row.now (get_or (rows_in c.args.rows.now) middle box.value) ≡ c.row_order.result = cc in
    record {
      low = c.loop-low.invariant.low;
      high = stops (rows_in c.args.rows.now) middle box.value c.args.row.now (omega (arith, length-rows_in c.args.rows.now)) (ap is_gt compared ∙ not_greater c.row_order.result c.in_default.not-Greater);
      within = omega arith;
    }
