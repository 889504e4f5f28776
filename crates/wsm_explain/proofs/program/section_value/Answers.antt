use Rattle.std.proofs.Common.{◌∙◌, ap, map, arith}
use Rattle.std.proofs.lemmas.List.{take_all}
use Rattle.serde_json.specs.Data.{array}
use Rattle.serde_json.specs.View.{items_of, view}
use Rattle.wsm_explain.specs.Program.{place_data}
use Rattle.wsm_explain.proofs.Lists.{copied_next}
use Rattle.wsm_explain.proofs.program.section_value.Goals as goal

pub loop-place-preserved : goal.loop-place-preserved
loop-place-preserved c =
    ap (map view) c.in_ok-push.ensures.items
    ∙ copied_next place_data c.args.places.now c.loop-place.place-index _ c.loop-place-test.true
    c.loop-place.list.items c.in_ok-place_value.field-0 c.loop-place.invariant c.in_ok-place_value.ensures

pub returns : goal.returns
returns c = c.from.ensures ∙ ap (λ ds. array (items_of ds)) (c.loop-place.invariant ∙ ap (map place_data) (take_all c.loop-place.place-index c.args.places.now (omega arith)))
