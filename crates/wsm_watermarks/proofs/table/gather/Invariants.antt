use Rattle.std.proofs.Common.{◌≡◌}
use Rattle.wsm_watermarks.specs.Clocks.{Fits}
use Rattle.wsm_watermarks.specs.Table.{speaking}
use Rattle.wsm_watermarks.proofs.table.gather.Given as goal

-- what speaks of the clocks so far
abbrev pub invariant-loop-clock : goal.invariant-loop-clock
invariant-loop-clock l = (l.clocks.most ≡ l.fn.clocks.most) × Fits l.clocks (speaking l.since l.need l.said l.clock)
