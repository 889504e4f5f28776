use Rattle.std.proofs.Common.{◌∙◌, ap, map, sym, arith}
use Rattle.std.proofs.lemmas.List.{take_all}
use Rattle.std.proofs.lemmas.Option.{get_or_from_slice_get, slice_get_within}
use Rattle.serde_json.specs.Data.{array}
use Rattle.serde_json.specs.View.{items_of, view}
use Rattle.wsm_explain.specs.Json.{text_data}
use Rattle.wsm_explain.proofs.Lists.{value_next}
use Rattle.wsm_explain.proofs.texts.names_value.Goals as goal

pub loop-number-preserved : goal.loop-number-preserved
loop-number-preserved c =
    let names = c.args.names.now in
    let i = c.loop-number.number in
    let x = c.text_of.result.now in
    ap (map view) c.in_ok-push.ensures.items
    ∙ value_next text_data names i x (slice_get_within names i x c.text_of.ensures) (sym (get_or_from_slice_get names i x x c.text_of.ensures))
    c.loop-number.list.items c.in_ok-text_value.field-0 c.loop-number.invariant c.in_ok-text_value.ensures

pub returns : goal.returns
returns c = c.from.ensures ∙ ap (λ ds. array (items_of ds)) (c.loop-number.invariant ∙ ap (map text_data) (take_all c.loop-number.number c.args.names.now (omega arith)))
