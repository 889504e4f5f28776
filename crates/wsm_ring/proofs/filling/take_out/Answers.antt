use Rattle.std.proofs.Common.{ap, inl, inr, refl, sym, ◌∙◌}
use Rattle.wsm_slots.specs.Slots.{pane_of, slot_at}
use Rattle.wsm_ring.proofs.Own.{is_none_of}
use Rattle.wsm_slots.proofs.Entry.{own_entry}
use Rattle.wsm_ring.proofs.Placed.{at_within, out_count}
use Rattle.wsm_ring.proofs.filling.take_out.Goals as goal

pub clear-requires : goal.clear-requires
clear-requires c =
    let os = c.args.slots.now.slots in
    at_within os c.args.slot _ (own_entry c.args.place (slot_at os c.args.slot) (sym c.is_at.ensures ∙ c.if-is_at.true)).1

pub returns-then-is_at-clause-slots : goal.returns-then-is_at-clause-slots
returns-then-is_at-clause-slots c =
    let os = c.args.slots.now.slots in
    let own = own_entry c.args.place (slot_at os c.args.slot) (sym c.is_at.ensures ∙ c.if-is_at.true) in
    inr (own.0, own.1, at_within os c.args.slot _ own.1, ap (λ s. s.slots) c.clear.ensures)

pub returns-then-is_at-clause-len : goal.returns-then-is_at-clause-len
returns-then-is_at-clause-len c =
    let os = c.args.slots.now.slots in
    let own = own_entry c.args.place (slot_at os c.args.slot) (sym c.is_at.ensures ∙ c.if-is_at.true) in
    rw c.clear.ensures (out_count os c.args.slot (c.args.place, own.0) own.1)

pub returns-else-is_at-clause-slots : goal.returns-else-is_at-clause-slots
returns-else-is_at-clause-slots c =
    let os = c.args.slots.now.slots in
    inl (is_none_of (pane_of c.args.place (slot_at os c.args.slot)) (sym c.is_at.ensures ∙ c.if-is_at.false), refl)
