use Rattle.std.proofs.Common.{◌<◌, length, map, Some, ap, sym, ◌∙◌, arith}
use Rattle.std.proofs.lemmas.Option.{slice_get-get_or, slice_get-map}
use Rattle.std.specs.Option.{option_map}
use Rattle.wsm_record.specs.Fields.{field_seen}
use Rattle.wsm_record.specs.Schema.{DeclaredField, is_field_type}
use Rattle.wsm_row_watermarks.proofs.SpeltNames.{all_at}
use Rattle.wsm_row_watermarks.proofs.sources.fields_in.Goals as goal

pub type_of-requires : goal.type_of-requires
type_of-requires c =
    let fields = c.args.fields.now in
    let i = c.loop-field.field-index in
    let f = c.field-item.result in
    let within : i < length fields = omega arith in
    all_at (λ (g : DeclaredField). is_field_type g.type) (map field_seen fields) i (field_seen f) c.requires
    (slice_get-map field_seen fields i ∙ ap (option_map field_seen) (slice_get-get_or fields i f within ∙ ap Some (sym c.field-item.is)))
