use Rattle.std.proofs.Common.{◌≡◌, true, map, take, drop, []}
use Rattle.wsm_record.specs.Schema.{fields_refusal, are_fields_after}
use Rattle.wsm_record.specs.Fields.{declared_field, field_seen}
use Rattle.wsm_record.proofs.DeclaredFields.{name_of}
use Rattle.wsm_record.proofs.schema.declare.Given as goal

-- the fields so far are kept, and the first fault is still to come
abbrev pub invariant-loop-field : goal.invariant-loop-field
invariant-loop-field l = record {
  kept : map field_seen l.kept.items ≡ take l.field-index (map declared_field l.fields);
  lawful : are_fields_after [] (map field_seen l.kept.items) ≡ true;
  refusal : fields_refusal (map name_of (take l.field-index (map declared_field l.fields))) (drop l.field-index (map declared_field l.fields)) ≡ fields_refusal [] (map declared_field l.fields);
}
