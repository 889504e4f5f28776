use Rattle.std.proofs.Common.{◌≡◌, ◌++◌, map, drop}
use Rattle.wsm_record.specs.Fields.{field_seen}
use Rattle.wsm_rules.specs.Rules as rules
use Rattle.wsm_verifier.proofs.reads.known_fields.Given as goal

-- those of the fields before the place, and then those of the rest
abbrev pub invariant-loop-place : goal.invariant-loop-place
invariant-loop-place l = record {
  so_far : l.known.items ++ rules.known_fields l.place (map field_seen (drop l.place l.fields)) ≡ rules.known_fields 0 (map field_seen l.fields);
}
