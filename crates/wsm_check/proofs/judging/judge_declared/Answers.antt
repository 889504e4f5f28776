use Rattle.std.proofs.Common.{◌≤◌, length, map, ap, arith}
use Rattle.std.proofs.lemmas.List.{length-map}
use Rattle.wsm_record.specs.Fields.{declared_field, field_seen, kept_of}
use Rattle.wsm_check.proofs.DeclaredSchema.{schema_lawful}
use Rattle.wsm_check.proofs.judging.judge_declared.Goals as goal

pub of_parts-requires : goal.of_parts-requires
of_parts-requires c =
    let fields = c.in_ok-fields.ensures in
    let few : length (map field_seen c.in_ok-fields.fields.items) ≤ 16 = omega (arith, fields.few, ap length fields.kept, length-map c.deref-2.result.now declared_field) in
    schema_lawful (kept_of c.in_ok-keys.keys c.in_ok-fields.fields.items c.in_ok-sources.sources) c.in_ok-keys.ensures.lawful few fields.lawful c.in_ok-sources.ensures.lawful
