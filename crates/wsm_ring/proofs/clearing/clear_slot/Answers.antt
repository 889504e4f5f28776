use Rattle.std.proofs.Common.{sym, ◌∙◌}
use Rattle.wsm_slots.specs.Slots.{slot_at}
use Rattle.wsm_ring.proofs.Placed.{entry_placed, out_count}
use Rattle.wsm_ring.proofs.clearing.clear_slot.Goals as goal

pub returns-in-Some-clause-len : goal.returns-in-Some-clause-len
returns-in-Some-clause-len c =
    let os = c.args.slots.now.slots in
    let e = entry_placed (slot_at os c.args.slot) c.in-Some.place (sym c.place.ensures ∙ c.in-Some.is) in
    rw c.clear.ensures (out_count os c.args.slot (c.in-Some.place, e.0) e.1)
