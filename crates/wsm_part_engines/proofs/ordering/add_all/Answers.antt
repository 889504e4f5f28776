use Rattle.std.proofs.Common.{◌++◌, ap, arith, ◌∙◌}
use Rattle.wsm_semantics.specs.declared.out_row.OutRow.{OutRow}
use Rattle.std.proofs.Common.{List}
use Rattle.wsm_part_engines.specs.Ordered.{places_from}
use Rattle.wsm_part_engines.proofs.PlacedRows.{one_part_more}
use Rattle.wsm_part_engines.proofs.ordering.add_all.Goals as goal

pub loop-part-preserved : goal.loop-part-preserved
loop-part-preserved c =
    one_part_more c.loop-part.part c.args.slots.now c.loop-part.order.items c.add_rows.new.order.items c.args.order.now.items (omega (arith, c.loop-part-test.true)) c.loop-part.invariant
    (c.in_ok-add_rows.ensures ∙ ap (λ (rows : List OutRow). c.loop-part.order.items ++ places_from c.loop-part.part 0 rows) c.rows.ensures)
