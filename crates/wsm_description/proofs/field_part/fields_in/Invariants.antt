use Rattle.std.proofs.Common.{◌≡◌, []}
use Rattle.toml.specs.View.{members_view}
use Rattle.wsm_description.specs.FieldPart.{fields_from}
use Rattle.wsm_description.proofs.field_part.fields_in.Given as goal

abbrev pub invariant-loop-name : goal.invariant-loop-name
invariant-loop-name l = fields_from l.fields.items (members_view l.name-iterator) ≡ fields_from [] (members_view l.fn.table.entries)
