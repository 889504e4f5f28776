use Rattle.std.proofs.Common.{arith}
use Rattle.wsm_panes.proofs.Enters.{keys_push}
use Rattle.wsm_panes.proofs.held.no_sessions.Goals as goal

pub loop-preserved : goal.loop-preserved
loop-preserved c = record {
  len = omega (arith, c.push_reserved.ensures.len, c.loop.invariant.len, c.push_reserved.new.self.ok.0, c.loop.sessions.ok.0);
  room = omega (arith, c.push_reserved.ensures.capacity, c.loop.invariant.room);
  each = rw c.push_reserved.ensures.items (keys_push _ c.args.live c.loop.sessions.items _ c.loop.invariant.each c.in_ok-open.ensures.empty);
}
