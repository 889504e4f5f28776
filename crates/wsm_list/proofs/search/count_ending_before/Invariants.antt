use Rattle.std.proofs.Common.{◌≤◌, ◌+◌, ◌*◌, ◌⊎◌, length}
use Rattle.wsm_list.specs.Search.{AreBeforeAllOf}
use Rattle.wsm_list.specs.Stored.{shown}
use Rattle.wsm_list.proofs.search.count_ending_before.Given as goal

-- the entries below `low` stand before, and the next comparisons are within the list
abbrev pub invariant-loop-half : goal.invariant-loop-half
invariant-loop-half l = record {
  low : AreBeforeAllOf l.end l.low (shown l.slots.slots l.numbers);
  within : (l.low + l.top ≤ length l.numbers + 1) ⊎ (l.low + 2 * l.half ≤ length l.numbers + 1);
}

abbrev pub decreases-loop-half : goal.decreases-loop-half
decreases-loop-half l = l.half
