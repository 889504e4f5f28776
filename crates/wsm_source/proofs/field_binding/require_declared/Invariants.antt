use Rattle.std.proofs.Common.{◌≡◌, drop, map}
use Rattle.wsm_record.specs.Fields.{field_seen}
use Rattle.wsm_source.specs.FieldBinding.{all_declared}
use Rattle.wsm_source.proofs.field_binding.require_declared.Given as goal

abbrev pub invariant-loop-field : goal.invariant-loop-field
invariant-loop-field l = all_declared (map field_seen l.declared) (drop l.field-index l.fields) ≡ all_declared (map field_seen l.declared) l.fields
