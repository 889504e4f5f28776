use Rattle.wsm_saved.specs.Lists.{read_some}
use Rattle.wsm_saved_turns.specs.Turns.{read_said}
use Rattle.wsm_saved_turns.proofs.Reading.{read_one}
use Rattle.wsm_saved_turns.proofs.clocks.restore_some_stamps.Goals as goal

pub loop-left-preserved : goal.loop-left-preserved
loop-left-preserved c =
    read_one read_said c.loop-left.stamps.items c.push.new.self.items c.in-Some.said c.loop-left.left c.loop-left.from c.restore_said.new.from
    (read_some read_said c.args.count c.args.from.now) c.loop-left.invariant c.loop-left-test.true c.in-Some.ensures c.in_ok-push.ensures.items
