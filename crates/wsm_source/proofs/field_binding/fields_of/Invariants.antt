use Rattle.std.proofs.Common.{◌≡◌, ◌+◌, drop, map}
use Rattle.wsm_record.specs.Fields.{field_seen}
use Rattle.wsm_source.specs.FieldBinding.{fields_from, fields_of}
use Rattle.wsm_source.proofs.field_binding.fields_of.Given as goal

abbrev pub invariant-loop-i : goal.invariant-loop-i
invariant-loop-i l =
    fields_from l.format l.fields (l.i + 2) l.bound.items (map field_seen (drop l.i l.declared)) ≡ fields_of l.format l.fields (map field_seen l.declared)
