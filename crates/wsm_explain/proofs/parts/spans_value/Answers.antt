use Rattle.std.proofs.Common.{◌∙◌, ap, map, arith}
use Rattle.std.proofs.lemmas.List.{take_all}
use Rattle.serde_json.specs.Data.{array}
use Rattle.serde_json.specs.View.{items_of, view}
use Rattle.wsm_explain.specs.Parts.{span_data}
use Rattle.wsm_explain.proofs.Lists.{copied_next}
use Rattle.wsm_explain.proofs.parts.spans_value.Goals as goal

pub loop-span-preserved : goal.loop-span-preserved
loop-span-preserved c =
    ap (map view) c.in_ok-push.ensures.items
    ∙ copied_next (span_data c.args.text.now) c.args.spans.now c.loop-span.span-index _ c.loop-span-test.true
    c.loop-span.list.items c.in_ok-span_value.field-0 c.loop-span.invariant c.in_ok-span_value.ensures

pub returns : goal.returns
returns c = c.from.ensures ∙ ap (λ ds. array (items_of ds)) (c.loop-span.invariant ∙ ap (map (span_data c.args.text.now)) (take_all c.loop-span.span-index c.args.spans.now (omega arith)))
