use Rattle.wsm_doubles.specs.Entries.{entry_of}
use Rattle.wsm_saved.specs.Lists.{read_some}
use Rattle.wsm_saved.proofs.Listing.{restored_more}
use Rattle.wsm_saved_turns.specs.Turns.{read_entry}
use Rattle.wsm_saved_turns.proofs.doubles.restore_some.Goals as goal

pub loop-left-preserved : goal.loop-left-preserved
loop-left-preserved c =
    let entry = c.in-Some.entry in
    let restored = rw c.in-Some.is at c.in_ok-entry.ensures in
    restored_more entry_of read_entry c.loop-left.entries.items c.push.new.self.items entry c.loop-left.left c.loop-left.from c.restore_entry.new.from
    (read_some read_entry c.args.count c.args.from.now) c.loop-left.invariant c.loop-left-test.true restored c.in_ok-push.ensures.items
