use Rattle.std.proofs.Common.{◌≡◌, ◌⊎◌, ◌<◌, length, set, ap, arith, Some, SFits, w64, to_z, of_z, rules, inl, inr, sym, subst, ◌∙◌}
use Rattle.std.specs.FinMap as map
use Rattle.std.specs.Prelude.{IfSome, ◌≤ℤ◌}
use Rattle.std.proofs.lemmas.Int.{ints, to_z-of_z}
use Rattle.std.proofs.lemmas.List.{length-set}
use Rattle.std.proofs.lemmas.Option.{same_Some}
use Rattle.wsm_windows.specs.declared.place.Place.{Place}
use Rattle.wsm_slots.specs.Panes.{CanRecord, with_one_more}
use Rattle.wsm_ring.specs.Ring.{RingAdmits, IsOfRing, held, row_of, slot_of, window_number}
use Rattle.wsm_slots.specs.Slots.{pane_of, slot_at}
use Rattle.wsm_ring.proofs.Placed.{get_in, panes_in, panes_put, own_slot, placed_set, between_put, held_between, held_length}
use Rattle.wsm_ring.proofs.RingWalk.{same_start_key}
use Rattle.wsm_ring.proofs.Rings.{slot_within}
use Rattle.wsm_ring.proofs.ring_table.RingTable.enter_at.Goals as goal

pub record_in-more-requires-clause-slot : goal.record_in-more-requires-clause-slot
record_in-more-requires-clause-slot c =
    let a = c.self.inside in
    let is : c.args.slot ≡ slot_of a.ring c.args.place = rw (← c.self.view_is) at c.requires.slot in
    let admits : RingAdmits a.ring (panes_in a.slots.slots) c.args.place = rw (← c.self.view_is) at c.requires.admits in
    omega (arith, is, c.self.invariant.slots, slot_within a.ring c.args.place c.self.invariant.ring admits.0)

pub record_in-more-requires-clause-own : goal.record_in-more-requires-clause-own
record_in-more-requires-clause-own c = λ e at start.
    let a = c.self.inside in
    let is : c.args.slot ≡ slot_of a.ring c.args.place = rw (← c.self.view_is) at c.requires.slot in
    let admits : RingAdmits a.ring (panes_in a.slots.slots) c.args.place = rw (← c.self.view_is) at c.requires.admits in
    let of = c.self.invariant.placed c.args.slot e at in
    same_start_key a.ring e.0 c.args.place of.0 admits.0 start (omega (arith, of.1, is, ap (row_of a.ring) start))

pub record_in-more-requires-clause-takes : goal.record_in-more-requires-clause-takes
record_in-more-requires-clause-takes c =
    let a = c.self.inside in
    let is : c.args.slot ≡ slot_of a.ring c.args.place = rw (← c.self.view_is) at c.requires.slot in
    subst (λ o. IfSome o (CanRecord c.args.kinds.now c.args.values.now))
    (get_in a.ring a.slots.slots c.self.invariant.placed c.args.place ∙ ap (λ n. pane_of c.args.place (slot_at a.slots.slots n)) (sym is))
    (rw (← c.self.view_is) at c.requires.takes)

pub overflow_add-self : goal.overflow_add-self
overflow_add-self c =
    let a = c.self.inside in
    let new = ap (λ s. s.slots) c.record_in-more.ensures.slots in
    let v = with_one_more c.args.kinds.now c.args.values.now (pane_of c.args.place (slot_at a.slots.slots c.args.slot)) in
    let few = held_length c.record_in-more.new.slots.slots in
    let same : length c.record_in-more.new.slots.slots ≡ length a.slots.slots = ap length new ∙ length-set a.slots.slots c.args.slot (Some (c.args.place, v)) in
    omega (arith, few, same, c.record_in-more.ensures.len, c.self.invariant.len, c.self.invariant.slots, c.self.invariant.ring.slots)

pub invariant_of-self : goal.invariant_of-self
invariant_of-self c =
    let a = c.self.inside in
    let new = ap (λ s. s.slots) c.record_in-more.ensures.slots in
    let v = with_one_more c.args.kinds.now c.args.values.now (pane_of c.args.place (slot_at a.slots.slots c.args.slot)) in
    let is : c.args.slot ≡ slot_of a.ring c.args.place = rw (← c.self.view_is) at c.requires.slot in
    let admits : RingAdmits a.ring (panes_in a.slots.slots) c.args.place = rw (← c.self.view_is) at c.requires.admits in
    let within : c.args.slot < length a.slots.slots = omega (arith, is, c.self.invariant.slots, slot_within a.ring c.args.place c.self.invariant.ring admits.0) in
    let start : SFits w64 c.args.place.start = search rules in
    let end : SFits w64 c.args.place.end = search rules in
    let first : SFits w64 a.first = search rules in
    let last : SFits w64 a.last = search rules in
    let low : SFits w64 c.stretched.result.0 = search rules in
    let high : SFits w64 c.stretched.result.1 = search rules in
    let either : (c.stretched.result.0 ≡ c.args.place.start) ⊎ (c.stretched.result.0 ≡ a.first) = simp to_z-of_z at c.stretched.ensures.first in
    let other : (c.stretched.result.1 ≡ c.args.place.start) ⊎ (c.stretched.result.1 ≡ a.last) = simp to_z-of_z at c.stretched.ensures.last in
    let around : (c.stretched.result.0 ≤ℤ c.args.place.start) × (c.args.place.start ≤ℤ c.stretched.result.1) = simp to_z-of_z at c.stretched.ensures.around in
    let wider : 0 < a.len → (c.stretched.result.0 ≤ℤ a.first) × (a.last ≤ℤ c.stretched.result.1) = simp to_z-of_z at c.stretched.ensures.wider in
    let z0 : to_z w64 (of_z w64 c.stretched.result.0) ≡ c.stretched.result.0 = to_z-of_z w64 c.stretched.result.0 low in
    let z1 : to_z w64 (of_z w64 c.stretched.result.1) ≡ c.stretched.result.1 = to_z-of_z w64 c.stretched.result.1 high in
    record {
      ring = c.self.invariant.ring;
      slots = ap length new ∙ length-set a.slots.slots c.args.slot (Some (c.args.place, v)) ∙ c.self.invariant.slots;
      placed = rw new (placed_set a.ring a.slots.slots c.args.slot (Some (c.args.place, v)) c.self.invariant.placed within
          (λ f same. subst (λ (x : Place). IsOfRing a.ring x × (slot_of a.ring x ≡ c.args.slot)) (ap (λ y. y.0) (same_Some _ f same)) (admits.0, sym is)));
      between = rw (new, z0, z1) (between_put a.slots.slots c.args.slot (c.args.place, v) a.first a.last c.stretched.result.0 c.stretched.result.1 within c.self.invariant.between
          (λ some. wider (omega (arith, some, c.self.invariant.len))) around);
      grid = rw z0 (elim either [ inl same ↦ rw same (window_number a.ring c.args.place.start, admits.0.start) | inr same ↦ rw same c.self.invariant.grid ]);
      first = rw z0 low;
      last = rw z1 (elim other [ inl same ↦ rw (same, ← admits.0.end) end | inr same ↦ rw same c.self.invariant.last ]);
      row = c.self.invariant.row;
      len = omega (arith, c.record_in-more.ensures.len, c.self.invariant.len);
    }

pub invariant_of-self-else-more-gt0 : goal.invariant_of-self-else-more-gt0
invariant_of-self-else-more-gt0 c =
    let a = c.self.inside in
    let new = ap (λ s. s.slots) c.record_in-more.ensures.slots in
    let v = with_one_more c.args.kinds.now c.args.values.now (pane_of c.args.place (slot_at a.slots.slots c.args.slot)) in
    let is : c.args.slot ≡ slot_of a.ring c.args.place = rw (← c.self.view_is) at c.requires.slot in
    let admits : RingAdmits a.ring (panes_in a.slots.slots) c.args.place = rw (← c.self.view_is) at c.requires.admits in
    let within : c.args.slot < length a.slots.slots = omega (arith, is, c.self.invariant.slots, slot_within a.ring c.args.place c.self.invariant.ring admits.0) in
    let own = rw (← is) at (own_slot a.ring a.slots.slots c.args.place c.self.invariant.placed admits) in
    let none : c.record_in-more.result ≡ 0 = omega (arith, c.if-more-gt0.false) in
    let count : length (held c.record_in-more.new.slots.slots) ≡ length (held a.slots.slots) = omega (arith, c.record_in-more.ensures.len, none) in
    let around = held_between a.slots.slots c.args.slot c.args.place v a.first a.last within c.self.invariant.between own (rw (← new) count) in
    record {
      ring = c.self.invariant.ring;
      slots = ap length new ∙ length-set a.slots.slots c.args.slot (Some (c.args.place, v)) ∙ c.self.invariant.slots;
      placed = rw new (placed_set a.ring a.slots.slots c.args.slot (Some (c.args.place, v)) c.self.invariant.placed within
          (λ f same. subst (λ (x : Place). IsOfRing a.ring x × (slot_of a.ring x ≡ c.args.slot)) (ap (λ y. y.0) (same_Some _ f same)) (admits.0, sym is)));
      between = rw new (between_put a.slots.slots c.args.slot (c.args.place, v) a.first a.last a.first a.last within c.self.invariant.between (λ some. (omega (arith, ints), omega (arith, ints))) around);
      grid = c.self.invariant.grid;
      first = c.self.invariant.first;
      last = c.self.invariant.last;
      row = c.self.invariant.row;
      len = omega (arith, count, c.self.invariant.len);
    }

pub returns-then-more-gt0-clause-panes : goal.returns-then-more-gt0-clause-panes
returns-then-more-gt0-clause-panes c =
    let a = c.self.inside in
    let new = ap (λ s. s.slots) c.record_in-more.ensures.slots in
    let is : c.args.slot ≡ slot_of a.ring c.args.place = rw (← c.self.view_is) at c.requires.slot in
    let admits : RingAdmits a.ring (panes_in a.slots.slots) c.args.place = rw (← c.self.view_is) at c.requires.admits in
    let within : slot_of a.ring c.args.place < length a.slots.slots = omega (arith, c.self.invariant.slots, slot_within a.ring c.args.place c.self.invariant.ring admits.0) in
    ap panes_in (new ∙ ap (λ n. set a.slots.slots n (Some (c.args.place, with_one_more c.args.kinds.now c.args.values.now (pane_of c.args.place (slot_at a.slots.slots n))))) is)
    ∙ panes_put a.ring a.slots.slots c.args.place _ c.self.invariant.placed admits.0 within (own_slot a.ring a.slots.slots c.args.place c.self.invariant.placed admits)
    ∙ ap (λ o. map.insert (panes_in a.slots.slots) c.args.place (with_one_more c.args.kinds.now c.args.values.now o)) (sym (get_in a.ring a.slots.slots c.self.invariant.placed c.args.place))
    ∙ ap (λ t. map.insert t.panes c.args.place (with_one_more c.args.kinds.now c.args.values.now (map.get t.panes c.args.place))) c.self.view_is

pub returns-else-more-gt0-clause-panes : goal.returns-else-more-gt0-clause-panes
returns-else-more-gt0-clause-panes c =
    let a = c.self.inside in
    let new = ap (λ s. s.slots) c.record_in-more.ensures.slots in
    let is : c.args.slot ≡ slot_of a.ring c.args.place = rw (← c.self.view_is) at c.requires.slot in
    let admits : RingAdmits a.ring (panes_in a.slots.slots) c.args.place = rw (← c.self.view_is) at c.requires.admits in
    let within : slot_of a.ring c.args.place < length a.slots.slots = omega (arith, c.self.invariant.slots, slot_within a.ring c.args.place c.self.invariant.ring admits.0) in
    ap panes_in (new ∙ ap (λ n. set a.slots.slots n (Some (c.args.place, with_one_more c.args.kinds.now c.args.values.now (pane_of c.args.place (slot_at a.slots.slots n))))) is)
    ∙ panes_put a.ring a.slots.slots c.args.place _ c.self.invariant.placed admits.0 within (own_slot a.ring a.slots.slots c.args.place c.self.invariant.placed admits)
    ∙ ap (λ o. map.insert (panes_in a.slots.slots) c.args.place (with_one_more c.args.kinds.now c.args.values.now o)) (sym (get_in a.ring a.slots.slots c.self.invariant.placed c.args.place))
    ∙ ap (λ t. map.insert t.panes c.args.place (with_one_more c.args.kinds.now c.args.values.now (map.get t.panes c.args.place))) c.self.view_is
