use Rattle.std.proofs.Common.{◌≡◌, map, drop}
use Rattle.wsm_record.specs.Schema.{fit_fields}
use Rattle.wsm_record.specs.Fields.{field_seen}
use Rattle.wsm_record.proofs.schema.fit.Given as goal

-- the values so far fit
abbrev pub invariant-loop-i : goal.invariant-loop-i
invariant-loop-i l = fit_fields (drop l.i (map field_seen l.fields)) (drop l.i l.values) ≡ fit_fields (map field_seen l.fields) l.values
