use Rattle.std.proofs.Common.{◌≡◌, ◌++◌, take}
use Rattle.wsm_part_engines.specs.Ordered.{all_places}
use Rattle.wsm_part_engines.proofs.ordering.add_all.Given as goal

-- the places of the rows of the parts that were gone over were added
abbrev pub invariant-loop-part : goal.invariant-loop-part
invariant-loop-part l = l.order.items ≡ l.fn.order.items ++ all_places 0 (take l.part l.slots)
