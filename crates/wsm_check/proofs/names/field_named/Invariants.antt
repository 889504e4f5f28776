use Rattle.std.proofs.Common.{map, drop}
use Rattle.wsm_record.specs.Fields.{field_seen}
use Rattle.wsm_check.proofs.NamedFields.{Behind}
use Rattle.wsm_check.proofs.names.field_named.Given as goal

-- no field so far has the name
abbrev pub invariant-loop-number : goal.invariant-loop-number
invariant-loop-number l = Behind (map field_seen l.fields) l.name l.number (map field_seen (drop l.number l.fields))
