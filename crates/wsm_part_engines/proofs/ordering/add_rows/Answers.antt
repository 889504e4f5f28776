use Rattle.std.proofs.Common.{[], ◌∷◌, ◌++◌, ap, arith, ◌∙◌}
use Rattle.wsm_part_engines.specs.declared.row_place.RowPlace.{RowPlace}
use Rattle.wsm_part_engines.proofs.PlacedRows.{one_row_more}
use Rattle.wsm_part_engines.proofs.ordering.add_rows.Goals as goal

pub loop-i-preserved : goal.loop-i-preserved
loop-i-preserved c =
    c.in_ok-push.ensures.items
    ∙ ap (λ (p : RowPlace). c.loop-i.order.items ++ p ∷ []) c.place_in.ensures
    ∙ one_row_more c.args.part c.loop-i.i c.args.rows.now c.index-rows-i.result c.loop-i.order.items c.args.order.now.items (omega (arith, c.loop-i-test.true)) c.index-rows-i.is c.loop-i.invariant
