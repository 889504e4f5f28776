use Rattle.std.proofs.Common.{◌≡◌, drop}
use Rattle.wsm_source.specs.Pointers.{run_from, pointer_of}
use Rattle.wsm_source.proofs.place_part.pointer_of.Given as goal

-- what is left of the pointer ends as the whole
abbrev pub invariant-loop-byte : goal.invariant-loop-byte
invariant-loop-byte l = run_from l.pointer (drop l.byte-index l.text) ≡ pointer_of l.text
