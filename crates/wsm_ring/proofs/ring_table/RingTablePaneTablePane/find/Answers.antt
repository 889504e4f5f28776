use Rattle.std.proofs.Common.{sym, ap, ◌∙◌}
use Rattle.std.specs.Option.{is_some}
use Rattle.wsm_slots.specs.Slots.{pane_of, slot_at}
use Rattle.wsm_ring.proofs.Placed.{get_in}
use Rattle.wsm_slots.proofs.Entry.{some_found, none_found}
use Rattle.wsm_ring.proofs.ring_table.RingTablePaneTablePane.find.Goals as goal

pub returns-then-is_at-clause-place : goal.returns-then-is_at-clause-place
returns-then-is_at-clause-place c =
    let a = c.self.inside in
    rw (← c.self.view_is) (some_found c.args.place _ (
    ap is_some (get_in a.ring a.slots.slots c.self.invariant.placed c.args.place)
    ∙ ap (λ n. is_some (pane_of c.args.place (slot_at a.slots.slots n))) (sym c.slot_beside-at.ensures)
    ∙ sym c.is_at.ensures ∙ c.if-is_at.true))

pub returns-else-is_at-clause-place : goal.returns-else-is_at-clause-place
returns-else-is_at-clause-place c =
    let a = c.self.inside in
    rw (← c.self.view_is) (none_found c.args.place _ (
    ap is_some (get_in a.ring a.slots.slots c.self.invariant.placed c.args.place)
    ∙ ap (λ n. is_some (pane_of c.args.place (slot_at a.slots.slots n))) (sym c.slot_beside-at.ensures)
    ∙ sym c.is_at.ensures ∙ c.if-is_at.false))

pub returns-then-is_at-clause-spot : goal.returns-then-is_at-clause-spot
returns-then-is_at-clause-spot c = rw (← c.self.view_is) c.slot_beside-at.ensures
