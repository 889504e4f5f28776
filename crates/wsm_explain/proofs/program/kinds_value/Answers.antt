use Rattle.std.proofs.Common.{◌∙◌, ap, map, arith}
use Rattle.std.proofs.lemmas.List.{take_all}
use Rattle.serde_json.specs.Data.{array}
use Rattle.serde_json.specs.View.{items_of, view}
use Rattle.wsm_explain.specs.Program.{kind_data}
use Rattle.wsm_explain.proofs.Lists.{copied_next}
use Rattle.wsm_explain.proofs.program.kinds_value.Goals as goal

pub loop-kind-preserved : goal.loop-kind-preserved
loop-kind-preserved c =
    ap (map view) c.in_ok-push.ensures.items
    ∙ copied_next kind_data c.args.kinds.now c.loop-kind.kind-index _ (omega arith)
    c.loop-kind.list.items c.in_ok-kind_value.field-0 c.loop-kind.invariant c.in_ok-kind_value.ensures

pub returns : goal.returns
returns c = c.from.ensures ∙ ap (λ ds. array (items_of ds)) (c.loop-kind.invariant ∙ ap (map kind_data) (take_all c.loop-kind.kind-index c.args.kinds.now (omega arith)))
