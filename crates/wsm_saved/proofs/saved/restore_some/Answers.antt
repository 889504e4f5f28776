use Rattle.wsm_saved.specs.Lists.{read_some}
use Rattle.wsm_saved.proofs.Listing.{restored_more}
use Rattle.wsm_saved.proofs.saved.restore_some.Goals as goal

pub loop-left-preserved : goal.loop-left-preserved
loop-left-preserved g c =
    let value = c.in-Some.value in
    let restored = rw c.in-Some.is at c.in_ok-value.ensures in
    restored_more g.T.Saved.shown g.T.Saved.read c.loop-left.values.items c.push.new.self.items value c.loop-left.left c.loop-left.from c.restore.new.from
    (read_some g.T.Saved.read c.args.count c.args.from.now) c.loop-left.invariant c.loop-left-test.true restored c.in_ok-push.ensures.items
