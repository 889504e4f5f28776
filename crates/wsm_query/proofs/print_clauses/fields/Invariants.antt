use Rattle.std.proofs.Common.{◌≡◌, map, take}
use Rattle.std.specs.List.{flat_map}
use Rattle.wsm_query.specs.Adds.{adds}
use Rattle.wsm_query.specs.Print.{field_tokens}
use Rattle.wsm_record.specs.Fields.{declared_field}
use Rattle.wsm_query.proofs.print_clauses.fields.Given as goal

-- the fields so far were added
abbrev pub invariant-loop-declared : goal.invariant-loop-declared
invariant-loop-declared l = l.text.items ≡ adds l.fn.text.items (flat_map field_tokens (map declared_field (take l.declared-index l.fields)))
