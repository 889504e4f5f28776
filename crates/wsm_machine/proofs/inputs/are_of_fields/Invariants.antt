use Rattle.std.proofs.Common.{◌≡◌, drop, map}
use Rattle.wsm_record.specs.Fields.{field_seen}
use Rattle.wsm_machine.specs.Inputs.{are_of_fields}
use Rattle.wsm_machine.proofs.inputs.are_of_fields.Given as goal

-- those so far are of their fields
abbrev pub invariant-loop-i : goal.invariant-loop-i
invariant-loop-i l = are_of_fields (drop l.i (map field_seen l.fields)) (drop l.i l.values) ≡ are_of_fields (map field_seen l.fields) l.values
