use Rattle.std.proofs.Common.{◌≡◌, ◌++◌, length, take}
use Rattle.std.specs.List.{flat_map}
use Rattle.wsm_bytecode.specs.Parts.{byte, column}
use Rattle.wsm_bytecode.proofs.writing.header.put_columns.Given as goal

abbrev pub invariant-loop-column : goal.invariant-loop-column
invariant-loop-column l = l.out.items ≡ l.fn.out.items ++ (byte (length l.columns) ++ flat_map column (take l.column-index l.columns))
