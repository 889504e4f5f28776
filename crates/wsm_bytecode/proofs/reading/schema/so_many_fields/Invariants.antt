use Rattle.std.proofs.Common.{◌≡◌, ◌-◌, [], map}
use Rattle.wsm_record.specs.Fields.{field_seen}
use Rattle.wsm_bytecode.specs.Steps.{fields_after}
use Rattle.wsm_bytecode.proofs.Loop.{with_front}
use Rattle.wsm_bytecode.proofs.reading.schema.so_many_fields.Given as goal

abbrev pub invariant-loop : goal.invariant-loop
invariant-loop l = with_front (map field_seen l.fields.items) (fields_after (map (λ f. f.name) l.fields.items) (l.count - l.counter) l.rest) ≡ fields_after [] l.count l.bytes
