use Rattle.std.proofs.Common.{◌≡◌, ◌++◌, length, take}
use Rattle.std.specs.List.{flat_map}
use Rattle.wsm_bytecode.specs.Parts.{number, instr}
use Rattle.wsm_bytecode.proofs.writing.code.put_section.Given as goal

abbrev pub invariant-loop-instr : goal.invariant-loop-instr
invariant-loop-instr l = l.out.items ≡ l.fn.out.items ++ (number (length l.instrs) ++ flat_map instr (take l.instr-index l.instrs))
