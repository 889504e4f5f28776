use Rattle.std.proofs.Common.{◌<◌, ◌+◌, List, ◌∷◌, length, drop, sym, ap, ◌∙◌, arith}
use Rattle.wsm_record.specs.declared.cell.Cell.{Cell}
use Rattle.wsm_relation.specs.Rows.{rows_in}
use Rattle.wsm_relation.proofs.Boxes.{length-rows_in, drop-here}
use Rattle.wsm_relation.proofs.relation.Relation.get.Goals as goal

pub returns : goal.returns
returns c =
    let bs = c.self.inside.rows.items in
    let below : c.args.i < length (rows_in bs) = rw (← c.self.view_is) at c.requires in
    let within : c.args.i < length bs = omega (arith, below, length-rows_in bs) in
    rw (← c.self.view_is)
    (drop-here bs c.args.i c.index.result.now within c.index.ensures ∙ ap (λ (x : List Cell). x ∷ drop (c.args.i + 1) (rows_in bs)) (sym c.deref.ensures))
