use Rattle.std.proofs.Common.{◌≡◌, drop, map}
use Rattle.wsm_machine.specs.Step.{type_of, are_types}
use Rattle.wsm_machine.proofs.results.are_types.Given as goal

-- those so far have their types
abbrev pub invariant-loop-i : goal.invariant-loop-i
invariant-loop-i l = are_types (drop l.i l.types) (drop l.i (map type_of l.cells)) ≡ are_types l.types (map type_of l.cells)
