use Rattle.std.proofs.Common.{◌∙◌, ap, map, sym, arith}
use Rattle.std.proofs.lemmas.List.{take_all}
use Rattle.serde_json.specs.Data.{array}
use Rattle.serde_json.specs.View.{items_of, view}
use Rattle.std.proofs.lemmas.Simd.{map-map}
use Rattle.wsm_record.specs.Fields.{field_seen}
use Rattle.wsm_explain.specs.Declarations.{field_data}
use Rattle.wsm_explain.proofs.Lists.{value_next}
use Rattle.wsm_explain.proofs.declared.fields_value.Goals as goal

pub loop-field-preserved : goal.loop-field-preserved
loop-field-preserved c =
    ap (map view) c.in_ok-push.ensures.items
    ∙ value_next (λ f. field_data (field_seen f)) c.args.fields.now c.loop-field.field-index c.field-item.result (omega arith) c.field-item.is
    c.loop-field.list.items c.in_ok-field_value.field-0 c.loop-field.invariant c.in_ok-field_value.ensures

pub returns : goal.returns
returns c =
    c.from.ensures
    ∙ ap (λ ds. array (items_of ds)) (c.loop-field.invariant
    ∙ ap (map (λ f. field_data (field_seen f))) (take_all c.loop-field.field-index c.args.fields.now (omega arith))
    ∙ sym (map-map field_data field_seen c.args.fields.now))
