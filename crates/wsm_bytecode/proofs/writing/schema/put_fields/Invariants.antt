use Rattle.std.proofs.Common.{◌≡◌, ◌++◌, length, map, take}
use Rattle.std.specs.List.{flat_map}
use Rattle.wsm_record.specs.Fields.{field_seen}
use Rattle.wsm_bytecode.specs.Parts.{byte, field}
use Rattle.wsm_bytecode.proofs.writing.schema.put_fields.Given as goal

abbrev pub invariant-loop-field : goal.invariant-loop-field
invariant-loop-field l = l.out.items ≡ l.fn.out.items ++ (byte (length l.fields) ++ flat_map field (map field_seen (take l.field-index l.fields)))
