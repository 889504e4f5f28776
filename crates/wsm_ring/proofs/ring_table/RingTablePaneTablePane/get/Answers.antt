use Rattle.std.proofs.Common.{Some, sym, ap, subst, ◌∙◌}
use Rattle.std.specs.Option.{is_some}
use Rattle.std.specs.Prelude.{option_map}
use Rattle.wsm_slots.specs.Layout.{IsAsWide}
use Rattle.wsm_slots.specs.Slots.{pane_of, slot_at}
use Rattle.wsm_ring.proofs.Own.{is_none_of}
use Rattle.wsm_slots.proofs.Entry.{own_entry}
use Rattle.wsm_ring.proofs.Placed.{get_in, pane_here}
use Rattle.wsm_ring.proofs.ring_table.RingTablePaneTablePane.get.Goals as goal

pub pane-requires : goal.pane-requires
pane-requires c =
    let os = c.self.inside.slots.slots in
    ap is_some (own_entry c.args.place (slot_at os c.slot-slot.result) (sym c.is_at.ensures ∙ c.if-is_at.true)).1

pub returns-then-is_at-clause-holds : goal.returns-then-is_at-clause-holds
returns-then-is_at-clause-holds c =
    rw (← c.self.view_is) (subst (IsAsWide c.self.inside.slots.widths) (sym c.of_view.ensures) c.pane.ensures.wide)

pub returns-then-is_at-clause-pane : goal.returns-then-is_at-clause-pane
returns-then-is_at-clause-pane c =
    let a = c.self.inside in
    let os = a.slots.slots in
    let own = own_entry c.args.place (slot_at os c.slot-slot.result) (sym c.is_at.ensures ∙ c.if-is_at.true) in
    rw (← c.self.view_is) (
    ap Some c.of_view.ensures ∙ sym c.pane.ensures.same ∙ ap (option_map (λ e. e.1)) own.1
    ∙ sym (ap (pane_of c.args.place) own.1 ∙ pane_here c.args.place own.0)
    ∙ ap (λ n. pane_of c.args.place (slot_at os n)) c.slot-slot.ensures
    ∙ sym (get_in a.ring os c.self.invariant.placed c.args.place))

pub returns-else-is_at-clause-pane : goal.returns-else-is_at-clause-pane
returns-else-is_at-clause-pane c =
    let a = c.self.inside in
    let os = a.slots.slots in
    rw (← c.self.view_is) (
    sym (get_in a.ring os c.self.invariant.placed c.args.place
    ∙ ap (λ n. pane_of c.args.place (slot_at os n)) (sym c.slot-slot.ensures)
    ∙ is_none_of (pane_of c.args.place (slot_at os c.slot-slot.result)) (sym c.is_at.ensures ∙ c.if-is_at.false)))
