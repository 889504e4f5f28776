use Rattle.std.proofs.Common.{◌≡◌, take}
use Rattle.wsm_doubles.specs.Memory.{live}
use Rattle.wsm_doubles.proofs.table.Table.is_live.Given as goal

abbrev pub invariant-loop-number : goal.invariant-loop-number
invariant-loop-number l = live l.moment.clock l.moment.shape l.moment.mark (take l.number l.self-inside.entries) ≡ take l.number l.self-inside.entries
