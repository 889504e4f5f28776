use Rattle.std.proofs.Common.{◌≡◌, ◌++◌, length, take}
use Rattle.std.specs.List.{flat_map}
use Rattle.wsm_bytecode.specs.Parts.{byte, kind}
use Rattle.wsm_bytecode.proofs.writing.header.put_kinds.Given as goal

abbrev pub invariant-loop-kind : goal.invariant-loop-kind
invariant-loop-kind l = l.out.items ≡ l.fn.out.items ++ (byte (length l.kinds) ++ flat_map kind (take l.kind-index l.kinds))
