use Rattle.std.proofs.Common.{◌≡◌, true, length, subst, []}
use Rattle.std.proofs.lemmas.Bool.{and_parts}
use Rattle.wsm_record.specs.Name.{is_between}
use Rattle.wsm_record.specs.Schema.{are_names_after, is_field_type}
use Rattle.wsm_record.specs.Fields.{type_seen}
use Rattle.wsm_record.specs.declared.schema.FieldType.{FieldType}
use Rattle.wsm_record.proofs.Schemas.{names_spelt}
use Rattle.wsm_row_watermarks.proofs.sources.type_of.Goals as goal

pub names_in-requires : goal.names_in-requires
names_in-requires c =
    let names = c.in-Enum.names in
    let is = subst (λ (ty : FieldType). is_field_type (type_seen ty) ≡ true) c.in-Enum.is c.requires in
    names_spelt [] names (and_parts (is_between 1 1000 (length names)) (are_names_after [] names) is).1
