use Rattle.std.proofs.Common.{◌≤◌, ◌-◌, length}
use Rattle.wsm_parts.proofs.texts.fit.Given as goal

-- there are no more than so many
abbrev pub invariant-loop-alloc : goal.invariant-loop-alloc
invariant-loop-alloc l = length l.texts.items ≤ l.count

abbrev pub decreases-loop-alloc : goal.decreases-loop-alloc
decreases-loop-alloc l = l.count - length l.texts.items
