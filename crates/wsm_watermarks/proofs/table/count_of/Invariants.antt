use Rattle.std.proofs.Common.{◌≡◌, ◌≤◌}
use Rattle.wsm_watermarks.specs.Table.{counted}
use Rattle.wsm_watermarks.proofs.table.count_of.Given as goal

-- those of the clocks so far
abbrev pub invariant-loop-one : goal.invariant-loop-one
invariant-loop-one l = (l.count ≡ counted l.since l.need l.said l.one-index) × (l.count ≤ l.one-index)
