use Rattle.std.proofs.Common.{◌≡◌, map, take}
use Rattle.serde_json.specs.View.{view}
use Rattle.wsm_record.specs.Fields.{field_seen}
use Rattle.wsm_explain.specs.Declarations.{field_data}
use Rattle.wsm_explain.proofs.declared.fields_value.Given as goal

-- the values so far
abbrev pub invariant-loop-field : goal.invariant-loop-field
invariant-loop-field l = map view l.list.items ≡ map (λ f. field_data (field_seen f)) (take l.field-index l.fields)
