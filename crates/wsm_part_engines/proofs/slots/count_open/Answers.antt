use Rattle.std.proofs.Common.{arith}
use Rattle.wsm_part_engines.proofs.FedSlots.{one_more_open}
use Rattle.wsm_part_engines.proofs.slots.count_open.Goals as goal

pub loop-slot-preserved : goal.loop-slot-preserved
loop-slot-preserved c =
    let more = one_more_open c.args.slots.now c.loop-slot.slot-index c.slot-item.result c.loop-slot-test.true c.slot-item.is in
    let before = c.loop-slot.invariant.count in
    let one = c.one_if_open-open.ensures.count in
    let few = c.loop-slot.invariant.few in
    let most = c.one_if_open-open.ensures.most in
    record { count = omega (arith, more, before, one); few = omega (arith, few, most) }
