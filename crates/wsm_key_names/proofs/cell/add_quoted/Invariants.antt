use Rattle.std.proofs.Common.{◌≡◌, ◌++◌, ◌∷◌, take}
use Rattle.wsm_key_names.specs.Cell.{doubled}
use Rattle.wsm_key_names.proofs.cell.add_quoted.Given as goal

-- the bytes so far stand behind a quote
abbrev pub invariant-loop-byte : goal.invariant-loop-byte
invariant-loop-byte l = l.out.items ≡ l.fn.out.items ++ (34 ∷ doubled (take l.byte-index l.name))
