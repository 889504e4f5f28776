use Rattle.std.proofs.Common.{◌∙◌, ap, map, arith}
use Rattle.std.proofs.lemmas.List.{take_all}
use Rattle.serde_json.specs.Data.{array}
use Rattle.serde_json.specs.View.{items_of, view}
use Rattle.wsm_explain.specs.Ways.{way_data}
use Rattle.wsm_explain.proofs.Lists.{copied_next}
use Rattle.wsm_explain.proofs.ways.ways_value.Goals as goal

pub loop-way-preserved : goal.loop-way-preserved
loop-way-preserved c =
    ap (map view) c.in_ok-push.ensures.items
    ∙ copied_next way_data c.args.ways.now c.loop-way.way-index _ (omega arith)
    c.loop-way.list.items c.in_ok-way_value.field-0 c.loop-way.invariant c.in_ok-way_value.ensures

pub returns : goal.returns
returns c = c.from.ensures ∙ ap (λ ds. array (items_of ds)) (c.loop-way.invariant ∙ ap (map way_data) (take_all c.loop-way.way-index c.args.ways.now (omega arith)))
