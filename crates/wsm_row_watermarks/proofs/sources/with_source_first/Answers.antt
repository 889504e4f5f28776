use Rattle.std.proofs.Common.{◌≡◌, true, List, subst, sym}
use Rattle.std.specs.List.{list_all}
use Rattle.wsm_record.specs.Name.{is_name}
use Rattle.wsm_record.specs.Schema.{DeclaredField, is_field_type}
use Rattle.wsm_row_watermarks.proofs.SpeltNames.{spelt}
use Rattle.wsm_row_watermarks.proofs.sources.with_source_first.Goals as goal

pub names_in-requires : goal.names_in-requires
names_in-requires c = subst (λ names. list_all is_name names ≡ true) (sym c.keys.ensures) (spelt c.args.schema.now c.source_count-count.ensures.lawful).keys

pub names_in-requires-2 : goal.names_in-requires-2
names_in-requires-2 c = subst (λ names. list_all is_name names ≡ true) (sym c.sources.ensures) (spelt c.args.schema.now c.source_count-count.ensures.lawful).sources

pub fields_in-requires : goal.fields_in-requires
fields_in-requires c =
    subst (λ (fields : List DeclaredField). list_all (λ (f : DeclaredField). is_field_type f.type) fields ≡ true) (sym c.fields.ensures)
    (spelt c.args.schema.now c.source_count-count.ensures.lawful).fields
