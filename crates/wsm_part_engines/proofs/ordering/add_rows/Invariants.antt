use Rattle.std.proofs.Common.{◌≡◌, ◌++◌, take}
use Rattle.wsm_part_engines.specs.Ordered.{places_from}
use Rattle.wsm_part_engines.proofs.ordering.add_rows.Given as goal

-- the places of the rows that were gone over were added
abbrev pub invariant-loop-i : goal.invariant-loop-i
invariant-loop-i l = l.order.items ≡ l.fn.order.items ++ places_from l.part 0 (take l.i l.rows)
