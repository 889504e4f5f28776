use Rattle.std.proofs.Common.{◌≡◌, drop, map}
use Rattle.wsm_record.specs.Fields.{field_seen}
use Rattle.wsm_source.specs.FieldBinding.{is_declared}
use Rattle.wsm_source.proofs.field_binding.is_declared.Given as goal

abbrev pub invariant-loop-field : goal.invariant-loop-field
invariant-loop-field l = is_declared l.name (map field_seen (drop l.field-index l.declared)) ≡ is_declared l.name (map field_seen l.declared)
