use Rattle.std.proofs.Common.{◌≡◌, ◌++◌, take}
use Rattle.std.specs.List.{flat_map}
use Rattle.wsm_bytecode.specs.Parts.{name}
use Rattle.wsm_bytecode.proofs.writing.schema.put_each.Given as goal

abbrev pub invariant-loop-number : goal.invariant-loop-number
invariant-loop-number l = l.out.items ≡ l.fn.out.items ++ flat_map name (take l.number l.fn.names)
