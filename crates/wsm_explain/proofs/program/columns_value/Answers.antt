use Rattle.std.proofs.Common.{◌≡◌, ◌∙◌, ap, length, map, arith}
use Rattle.serde_json.specs.Data.{array}
use Rattle.serde_json.specs.View.{items_of, view}
use Rattle.wsm_explain.specs.Program.{columns_up_to}
use Rattle.wsm_explain.proofs.Lists.{typed_next}
use Rattle.wsm_explain.proofs.program.columns_value.Goals as goal

pub loop-place-preserved : goal.loop-place-preserved
loop-place-preserved c =
    ap (map view) c.in_ok-push.ensures.items
    ∙ typed_next c.args.columns.now c.args.ranges.now c.loop-place.place _ (omega arith)
    c.loop-place.list.items c.in_ok-column_value.field-0 c.range_at.result c.loop-place.invariant c.range_at.ensures c.in_ok-column_value.ensures

pub returns : goal.returns
returns c =
    let end : c.loop-place.place ≡ length c.args.columns.now = omega arith in
    c.from.ensures ∙ ap (λ ds. array (items_of ds)) (c.loop-place.invariant ∙ ap (columns_up_to c.args.columns.now c.args.ranges.now) end)
