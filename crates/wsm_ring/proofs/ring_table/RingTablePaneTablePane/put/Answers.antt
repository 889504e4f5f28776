use Rattle.std.proofs.Common.{◌≡◌, ◌⊎◌, ◌<◌, length, set, ap, arith, Some, SFits, w64, to_z, of_z, rules, inl, inr, sym, subst, ◌∙◌}
use Rattle.std.specs.FinMap as map
use Rattle.std.specs.Prelude.{◌≤ℤ◌}
use Rattle.std.proofs.lemmas.Int.{to_z-of_z}
use Rattle.std.proofs.lemmas.List.{length-set}
use Rattle.std.proofs.lemmas.Option.{same_Some}
use Rattle.wsm_windows.specs.declared.place.Place.{Place}
use Rattle.wsm_ring.specs.Ring.{RingAdmits, IsOfRing, slot_of, window_number}
use Rattle.wsm_ring.proofs.Placed.{panes_in, panes_put, own_slot, placed_set, between_put, held_length}
use Rattle.wsm_ring.proofs.Rings.{slot_within}
use Rattle.wsm_ring.proofs.ring_table.RingTablePaneTablePane.put.Goals as goal

pub fill-requires-clause-slot : goal.fill-requires-clause-slot
fill-requires-clause-slot c =
    let a = c.self.inside in
    let is : c.slot-slot.result ≡ slot_of a.ring c.args.place = c.slot-slot.ensures in
    let admits : RingAdmits a.ring (panes_in a.slots.slots) c.args.place = rw (← c.self.view_is) at c.requires.admits in
    omega (arith, is, c.self.invariant.slots, slot_within a.ring c.args.place c.self.invariant.ring admits.0)

pub fill-requires-clause-wide : goal.fill-requires-clause-wide
fill-requires-clause-wide c = rw (← c.self.view_is) at c.requires.holds

pub overflow_add-self : goal.overflow_add-self
overflow_add-self c =
    let a = c.self.inside in
    let new = ap (λ s. s.slots) c.fill.ensures.slots in
    let few = held_length c.fill.new.slots.slots in
    let same : length c.fill.new.slots.slots ≡ length a.slots.slots = ap length new ∙ length-set a.slots.slots c.slot-slot.result (Some (c.args.place, c.args.pane)) in
    omega (arith, few, same, c.fill.ensures.len, c.self.invariant.len, c.self.invariant.slots, c.self.invariant.ring.slots)

pub invariant_of-self : goal.invariant_of-self
invariant_of-self c =
    let a = c.self.inside in
    let new = ap (λ s. s.slots) c.fill.ensures.slots in
    let is : c.slot-slot.result ≡ slot_of a.ring c.args.place = c.slot-slot.ensures in
    let admits : RingAdmits a.ring (panes_in a.slots.slots) c.args.place = rw (← c.self.view_is) at c.requires.admits in
    let within : c.slot-slot.result < length a.slots.slots = omega (arith, is, c.self.invariant.slots, slot_within a.ring c.args.place c.self.invariant.ring admits.0) in
    let start : SFits w64 c.args.place.start = search rules in
    let end : SFits w64 c.args.place.end = search rules in
    let first : SFits w64 a.first = search rules in
    let last : SFits w64 a.last = search rules in
    let low : SFits w64 c.stretched.result.0 = search rules in
    let high : SFits w64 c.stretched.result.1 = search rules in
    let either : (c.stretched.result.0 ≡ c.args.place.start) ⊎ (c.stretched.result.0 ≡ a.first) = simp to_z-of_z at c.stretched.ensures.first in
    let other : (c.stretched.result.1 ≡ c.args.place.start) ⊎ (c.stretched.result.1 ≡ a.last) = simp to_z-of_z at c.stretched.ensures.last in
    let around : (c.stretched.result.0 ≤ℤ c.args.place.start) × (c.args.place.start ≤ℤ c.stretched.result.1) = simp to_z-of_z at c.stretched.ensures.around in
    let wider : 0 < a.len → (c.stretched.result.0 ≤ℤ a.first) × (a.last ≤ℤ c.stretched.result.1) = simp to_z-of_z at c.stretched.ensures.wider in
    let z0 : to_z w64 (of_z w64 c.stretched.result.0) ≡ c.stretched.result.0 = to_z-of_z w64 c.stretched.result.0 low in
    let z1 : to_z w64 (of_z w64 c.stretched.result.1) ≡ c.stretched.result.1 = to_z-of_z w64 c.stretched.result.1 high in
    record {
      ring = c.self.invariant.ring;
      slots = ap length new ∙ length-set a.slots.slots c.slot-slot.result (Some (c.args.place, c.args.pane)) ∙ c.self.invariant.slots;
      placed = rw new (placed_set a.ring a.slots.slots c.slot-slot.result (Some (c.args.place, c.args.pane)) c.self.invariant.placed within
          (λ f same. subst (λ (x : Place). IsOfRing a.ring x × (slot_of a.ring x ≡ c.slot-slot.result)) (ap (λ y. y.0) (same_Some _ f same)) (admits.0, sym is)));
      between = rw (new, z0, z1) (between_put a.slots.slots c.slot-slot.result (c.args.place, c.args.pane) a.first a.last c.stretched.result.0 c.stretched.result.1 within c.self.invariant.between
          (λ some. wider (omega (arith, some, c.self.invariant.len))) around);
      grid = rw z0 (elim either [ inl same ↦ rw same (window_number a.ring c.args.place.start, admits.0.start) | inr same ↦ rw same c.self.invariant.grid ]);
      first = rw z0 low;
      last = rw z1 (elim other [ inl same ↦ rw (same, ← admits.0.end) end | inr same ↦ rw same c.self.invariant.last ]);
      row = c.self.invariant.row;
      len = omega (arith, c.fill.ensures.len, c.self.invariant.len);
    }

pub returns-clause-panes : goal.returns-clause-panes
returns-clause-panes c =
    let a = c.self.inside in
    let new = ap (λ s. s.slots) c.fill.ensures.slots in
    let is : c.slot-slot.result ≡ slot_of a.ring c.args.place = c.slot-slot.ensures in
    let admits : RingAdmits a.ring (panes_in a.slots.slots) c.args.place = rw (← c.self.view_is) at c.requires.admits in
    let within : slot_of a.ring c.args.place < length a.slots.slots = omega (arith, c.self.invariant.slots, slot_within a.ring c.args.place c.self.invariant.ring admits.0) in
    ap panes_in (new ∙ ap (λ n. set a.slots.slots n (Some (c.args.place, c.args.pane))) is)
    ∙ panes_put a.ring a.slots.slots c.args.place c.args.pane c.self.invariant.placed admits.0 within (own_slot a.ring a.slots.slots c.args.place c.self.invariant.placed admits)
    ∙ ap (λ t. map.insert t.panes c.args.place c.args.pane) c.self.view_is
