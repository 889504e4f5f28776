use Rattle.std.proofs.Common.{◌≡◌, ◌-◌, length, set, Some, None, ap, arith, inl, inr, sym, ◌∙◌}
use Rattle.std.specs.FinMap as map
use Rattle.std.proofs.lemmas.List.{length-set}
use Rattle.wsm_slots.specs.Slots.{pane_of, slot_at}
use Rattle.wsm_ring.specs.Ring.{slot_of, held}
use Rattle.wsm_ring.proofs.Placed.{panes_in, panes_clear, panes_without, placed_less, between_less, cleared_less, at_within}
use Rattle.wsm_ring.proofs.ring_table.RingTablePaneTablePane.remove.Goals as goal

pub invariant_of-self : goal.invariant_of-self
invariant_of-self c =
    let a = c.self.inside in
    let len : a.len - c.take_out.result ≡ length (held c.take_out.new.slots.slots) = omega (arith, c.take_out.ensures.len, c.self.invariant.len) in
    elim c.take_out.ensures.slots [
      | inl same ↦ record {
        ring = c.self.invariant.ring;
        slots = ap length same.1 ∙ c.self.invariant.slots;
        placed = rw same.1 c.self.invariant.placed;
        between = rw same.1 c.self.invariant.between;
        grid = c.self.invariant.grid;
        first = c.self.invariant.first;
        last = c.self.invariant.last;
        row = c.self.invariant.row;
        len = len;
      }
      | inr gone ↦ record {
        ring = c.self.invariant.ring;
        slots = ap length gone.3 ∙ length-set a.slots.slots c.slot-slot.result None ∙ c.self.invariant.slots;
        placed = rw gone.3 (placed_less a.ring a.slots.slots _ c.self.invariant.placed (cleared_less a.slots.slots c.slot-slot.result gone.2));
        between = rw gone.3 (between_less a.slots.slots _ a.first a.last c.self.invariant.between (cleared_less a.slots.slots c.slot-slot.result gone.2));
        grid = c.self.invariant.grid;
        first = c.self.invariant.first;
        last = c.self.invariant.last;
        row = c.self.invariant.row;
        len = len;
      }
    ]

pub returns-clause-panes : goal.returns-clause-panes
returns-clause-panes c =
    let a = c.self.inside in
    let is = c.slot-slot.ensures in
    elim c.take_out.ensures.slots [
      | inl same ↦ ap panes_in same.1 ∙ panes_without a.ring a.slots.slots c.args.place c.self.invariant.placed (ap (λ n. pane_of c.args.place (slot_at a.slots.slots n)) (sym is) ∙ same.0)
      | inr gone ↦
          let own : slot_at a.slots.slots (slot_of a.ring c.args.place) ≡ Some (c.args.place, gone.0) = ap (slot_at a.slots.slots) (sym is) ∙ gone.1 in
          ap panes_in (gone.3 ∙ ap (λ n. set a.slots.slots n None) is) ∙ panes_clear a.ring a.slots.slots c.args.place gone.0 c.self.invariant.placed (at_within a.slots.slots _ _ own) own
    ]
    ∙ ap (λ t. map.remove t.panes c.args.place) c.self.view_is
