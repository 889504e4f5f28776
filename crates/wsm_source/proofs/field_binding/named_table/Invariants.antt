use Rattle.std.proofs.Common.{◌≡◌, drop}
use Rattle.wsm_source.specs.FieldBinding.{named_from, named_table}
use Rattle.wsm_source.proofs.field_binding.named_table.Given as goal

abbrev pub invariant-loop-number : goal.invariant-loop-number
invariant-loop-number l = named_from l.table l.number (drop l.number l.names) ≡ named_table l.names
