use Rattle.wsm_saved.specs.Lists.{read_some}
use Rattle.wsm_saved.proofs.Listing.{restored_more}
use Rattle.wsm_saved_turns.specs.Turns.{read_row, row_of}
use Rattle.wsm_saved_turns.proofs.clocks.restore_some_rows.Goals as goal

pub loop-left-preserved : goal.loop-left-preserved
loop-left-preserved c =
    let row = c.in-Some.row in
    let restored = rw c.in-Some.is at c.in_ok-row.ensures in
    restored_more row_of read_row c.loop-left.rows.items c.push.new.self.items row c.loop-left.left c.loop-left.from c.restore_row.new.from
    (read_some read_row c.args.count c.args.from.now) c.loop-left.invariant c.loop-left-test.true restored c.in_ok-push.ensures.items
