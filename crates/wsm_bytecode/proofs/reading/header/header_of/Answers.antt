use Rattle.std.proofs.Common.{rules, refl, map, arith}
use Rattle.std.specs.Prelude.{FitsSigned}
use Rattle.std.specs.Int.{w64}
use Rattle.std.proofs.lemmas.Int.{to_z-of_z}
use Rattle.wsm_record.specs.Fields.{field_seen}
use Rattle.wsm_bytecode.specs.Reading.{settings_seen, header_at}
use Rattle.wsm_bytecode.proofs.CodedProgram.{schema_taken}
use Rattle.wsm_bytecode.proofs.reading.header.header_of.Goals as goal

-- all were judged as they were read
pub of_parts-schema-requires : goal.of_parts-schema-requires
of_parts-schema-requires c =
    schema_taken c.args.version c.args.bytes.now c.in_ok-keys.rest.now c.in_ok-fields.rest.now c.in_ok-times.rest.now c.in_ok-settings.rest.now c.in_ok-keys.keys (map field_seen c.in_ok-fields.fields.items) c.in_ok-times.times (settings_seen c.in_ok-settings.settings)
    (λ i. omega (arith, c.type_inv.bytes i)) c.in_ok-keys.ensures c.in_ok-fields.ensures c.in_ok-times.ensures c.in_ok-settings.ensures

pub returns : goal.returns
unfolding header_at
returns c =
    let early : FitsSigned w64 c.in_ok-settings.settings.early = search rules in
    let late : FitsSigned w64 c.in_ok-settings.settings.late = search rules in
    let schema = c.of_parts-schema.ensures.parts in
    let back = rw schema at c.in_ok-back.ensures in
    simp to_z-of_z (rw (c.in_ok-keys.ensures, c.in_ok-fields.ensures, c.in_ok-times.ensures, c.in_ok-settings.ensures, back, schema, c.clock-clock.ensures) refl)
