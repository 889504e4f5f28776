use Rattle.std.proofs.Common.{◌∙◌, ap, map, sym, arith}
use Rattle.std.proofs.lemmas.List.{take_all}
use Rattle.std.proofs.lemmas.Simd.{map-map}
use Rattle.wsm_query.specs.Seen.{seen_expr}
use Rattle.wsm_explain.specs.Ways.{way_of}
use Rattle.wsm_explain.proofs.Lists.{item_next}
use Rattle.wsm_explain.proofs.ways.ways_of.Goals as goal

pub loop-column-preserved : goal.loop-column-preserved
loop-column-preserved c =
    c.in_ok-push.ensures.items
    ∙ item_next (λ e. way_of (seen_expr e)) c.args.columns.now c.loop-column.column-index c.column-item.result (omega arith) c.column-item.is
    c.loop-column.ways.items c.way_of.result c.loop-column.invariant c.way_of.ensures

pub returns : goal.returns
returns c =
    c.loop-column.invariant ∙ ap (map (λ e. way_of (seen_expr e))) (take_all c.loop-column.column-index c.args.columns.now (omega arith))
    ∙ sym (map-map way_of seen_expr c.args.columns.now)
