use Rattle.std.proofs.Common.{◌≡◌, drop}
use Rattle.wsm_source.specs.FieldBinding.{described_field}
use Rattle.wsm_source.proofs.field_binding.described_field.Given as goal

abbrev pub invariant-loop-field : goal.invariant-loop-field
invariant-loop-field l = described_field (drop l.field-index l.fields) l.name ≡ described_field l.fields l.name
