use Rattle.std.proofs.Common.{All, take}
use Rattle.wsm_live_loop.specs.Sinks.{IsServedBy}
use Rattle.wsm_live_loop.proofs.SinkLemmas.{Looked}
use Rattle.wsm_live_loop.proofs.sinks.least_taken.Given as goal

-- the first sinks can be served, and it is known what they have
abbrev pub invariant-loop-taken : goal.invariant-loop-taken
invariant-loop-taken l = record {
  served : All (IsServedBy l.fn.handed) (take l.taken-index l.fn.all);
  least : Looked l.least l.fn.all l.taken-index;
}
