use Rattle.std.proofs.Common.{◌≡◌, ◌+◌, ◌<◌, List, length, set, ap, arith, Some, refl, subst, ◌∙◌, inr}
use Rattle.std.specs.FinMap as map
use Rattle.std.specs.Option.{option_len}
use Rattle.std.specs.Prelude.{Option, option_map}
use Rattle.std.proofs.lemmas.List.{length-set}
use Rattle.std.proofs.lemmas.Option.{same_Some}
use Rattle.std.proofs.lemmas.Int.{ints}
use Rattle.wsm_record.specs.declared.event.Value.{Value}
use Rattle.wsm_windows.specs.declared.place.Place.{Place}
use Rattle.wsm_semantics.specs.Summaries.{Pane}
use Rattle.wsm_slots.specs.Panes.{once_fired}
use Rattle.wsm_ring.specs.Ring.{IsOfRing, held, slot_of}
use Rattle.wsm_slots.specs.Slots.{pane_of, slot_at}
use Rattle.wsm_ring.proofs.Placed.{at_within, between_put, get_in, held_set, pane_here, panes_in, panes_put, placed_set}
use Rattle.wsm_ring.proofs.RingWalk.{there_in}
use Rattle.wsm_ring.proofs.ring_table.RingTable.fire.Goals as goal

pub fire-requires-clause-slot : goal.fire-requires-clause-slot
fire-requires-clause-slot c =
    let a = c.self.inside in
    let there = there_in a.ring a.slots.slots c.self.invariant.placed c.args.spot.place (rw (← c.self.view_is) at c.requires.there) in
    let within : slot_of a.ring c.args.spot.place < length a.slots.slots = at_within a.slots.slots (slot_of a.ring c.args.spot.place) (c.args.spot.place, there.0) there.1 in
    omega (arith, rw (← c.self.view_is) at c.requires.spot, within)

pub invariant_of-self : goal.invariant_of-self
invariant_of-self c =
    let a = c.self.inside in
    let os = a.slots.slots in
    let s = slot_of a.ring c.args.spot.place in
    let there = there_in a.ring os c.self.invariant.placed c.args.spot.place (rw (← c.self.view_is) at c.requires.there) in
    let entry : Place × Pane (List Value) = (c.args.spot.place, once_fired c.args.mode c.args.spot.place (option_map (λ cells. cells.now) c.args.row) there.0) in
    let fires : Option (Place × Pane (List Value)) → Option (Place × Pane (List Value)) = option_map (λ e. (e.0, once_fired c.args.mode e.0 (option_map (λ cells. cells.now) c.args.row) e.1)) in
    let new : c.fire.new.self.slots ≡ set os s (Some entry) = ap (λ x. x.slots) c.fire.ensures ∙ ap (λ n. set os n (fires (slot_at os n))) (rw (← c.self.view_is) at c.requires.spot) ∙ ap (λ o. set os s (fires o)) there.1 in
    let within : s < length os = at_within os s (c.args.spot.place, there.0) there.1 in
    let of = (c.self.invariant.placed s (c.args.spot.place, there.0) there.1).0 in
    let count : length (held (set os s (Some entry))) + option_len (slot_at os s) ≡ length (held os) + 1 = held_set os s (Some entry) within in
    let one : option_len (slot_at os s) ≡ 1 = ap (λ (o : Option (Place × Pane (List Value))). option_len o) there.1 in
    record {
      ring = c.self.invariant.ring;
      slots = ap length new ∙ length-set os s (Some entry) ∙ c.self.invariant.slots;
      placed = rw new (placed_set a.ring os s (Some entry) c.self.invariant.placed within
          (λ f same. subst (λ (x : Place). IsOfRing a.ring x × (slot_of a.ring x ≡ s)) (ap (λ y. y.0) (same_Some _ f same)) (of, refl)));
      between = rw new (between_put os s entry a.first a.last a.first a.last within c.self.invariant.between (λ some. (omega (arith, ints), omega (arith, ints))) (c.self.invariant.between s (c.args.spot.place, there.0) there.1));
      grid = c.self.invariant.grid;
      first = c.self.invariant.first;
      last = c.self.invariant.last;
      row = c.self.invariant.row;
      len = omega (arith, ap (λ (l : List (Option (Place × Pane (List Value)))). length (held l)) new, count, one, c.self.invariant.len);
    }

pub returns-clause-panes : goal.returns-clause-panes
returns-clause-panes c =
    let a = c.self.inside in
    let os = a.slots.slots in
    let s = slot_of a.ring c.args.spot.place in
    let there = there_in a.ring os c.self.invariant.placed c.args.spot.place (rw (← c.self.view_is) at c.requires.there) in
    let entry : Place × Pane (List Value) = (c.args.spot.place, once_fired c.args.mode c.args.spot.place (option_map (λ cells. cells.now) c.args.row) there.0) in
    let fires : Option (Place × Pane (List Value)) → Option (Place × Pane (List Value)) = option_map (λ e. (e.0, once_fired c.args.mode e.0 (option_map (λ cells. cells.now) c.args.row) e.1)) in
    let new : c.fire.new.self.slots ≡ set os s (Some entry) = ap (λ x. x.slots) c.fire.ensures ∙ ap (λ n. set os n (fires (slot_at os n))) (rw (← c.self.view_is) at c.requires.spot) ∙ ap (λ o. set os s (fires o)) there.1 in
    let within : s < length os = at_within os s (c.args.spot.place, there.0) there.1 in
    let of = (c.self.invariant.placed s (c.args.spot.place, there.0) there.1).0 in (
      there.0,
      rw (← c.self.view_is) (get_in a.ring os c.self.invariant.placed c.args.spot.place ∙ ap (pane_of c.args.spot.place) there.1 ∙ pane_here c.args.spot.place there.0),
      ap panes_in new ∙ panes_put a.ring os c.args.spot.place entry.1 c.self.invariant.placed of within (inr (there.0, there.1)) ∙ ap (λ t. map.insert t.panes c.args.spot.place entry.1) c.self.view_is,
    )
