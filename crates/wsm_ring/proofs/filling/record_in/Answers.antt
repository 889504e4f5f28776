use Rattle.std.proofs.Common.{◌≡◌, w64, of_z, rules, Option, Some, None, List, refl, length, set, arith, ap, subst, sym, ◌∙◌}
use Rattle.std.specs.Option.{is_some, option_len}
use Rattle.std.specs.Prelude.{IfSome, option_map}
use Rattle.wsm_record.specs.declared.event.Value.{Value}
use Rattle.wsm_windows.specs.declared.place.Place.{Place}
use Rattle.wsm_semantics.specs.Summaries.{Pane}
use Rattle.wsm_slots.specs.Panes.{CanRecord, with_one_more}
use Rattle.wsm_slots.specs.Layout.{Slotted}
use Rattle.wsm_ring.specs.Ring.{held}
use Rattle.wsm_slots.specs.Slots.{pane_of, slot_at}
use Rattle.wsm_ring.proofs.Apart.{apart_place, same_time}
use Rattle.wsm_ring.proofs.Placed.{count_put, entry_placed, none_placed, pane_here}
use Rattle.wsm_ring.proofs.filling.record_in.Goals as goal

pub record-requires-clause-there : goal.record-requires-clause-there
record-requires-clause-there c =
    let os = c.args.slots.now.slots in
    ap is_some (entry_placed (slot_at os c.args.slot) c.in-Some.other (sym c.place.ensures ∙ c.in-Some.is)).1

pub record-requires-clause-takes : goal.record-requires-clause-takes
record-requires-clause-takes c =
    let os = c.args.slots.now.slots in let p = c.args.place in
    let e = entry_placed (slot_at os c.args.slot) c.in-Some.other (sym c.place.ensures ∙ c.in-Some.is) in
    let same = c.requires.own (c.in-Some.other, e.0) e.1 (same_time c.in-Some.other.start p.start (search rules) (search rules) c.if-other-place.true) in
    let at = e.1 ∙ ap (λ (x : Place). Some (x, e.0)) same in
    let can = subst (λ o. IfSome o (CanRecord c.args.kinds.now c.args.values.now)) (ap (pane_of p) at ∙ pane_here p e.0) c.requires.takes in
    rw at can

pub returns-in-Some-clause-slots : goal.returns-in-Some-clause-slots
returns-in-Some-clause-slots c =
    let os = c.args.slots.now.slots in let p = c.args.place in
    let e = entry_placed (slot_at os c.args.slot) c.in-Some.other (sym c.place.ensures ∙ c.in-Some.is) in
    let same = c.requires.own (c.in-Some.other, e.0) e.1 (same_time c.in-Some.other.start p.start (search rules) (search rules) c.if-other-place.true) in
    let at = e.1 ∙ ap (λ (x : Place). Some (x, e.0)) same in
    let more : Option (Pane (List Value)) → Pane (List Value) = with_one_more c.args.kinds.now c.args.values.now in
    let entry = ap (option_map (λ e. (e.0, more (Some e.1)))) at ∙ sym (ap (λ o. Some (p, more o)) (ap (pane_of p) at ∙ pane_here p e.0)) in
    c.record.ensures ∙ ap (λ o. let x : Slotted = record c.args.slots.now { slots = set os c.args.slot o } in x) entry

pub returns-in-Some-clause-len : goal.returns-in-Some-clause-len
returns-in-Some-clause-len c =
    let os = c.args.slots.now.slots in let p = c.args.place in
    let e = entry_placed (slot_at os c.args.slot) c.in-Some.other (sym c.place.ensures ∙ c.in-Some.is) in
    let f : Place × Pane (List Value) = (c.in-Some.other, with_one_more c.args.kinds.now c.args.values.now (Some e.0)) in
    let new : c.record.new.self.slots ≡ set os c.args.slot (Some f) = ap (λ s. s.slots) c.record.ensures ∙ ap (λ o. set os c.args.slot (option_map (λ e. (e.0, with_one_more c.args.kinds.now c.args.values.now (Some e.1))) o)) e.1 in
    omega (arith, ap (λ ns. length (held ns)) new, count_put os c.args.slot f c.requires.slot, ap (λ (o : Option (Place × Pane (List Value))). option_len o) e.1)

pub returns-in-Some-2-clause-slots : goal.returns-in-Some-2-clause-slots
returns-in-Some-2-clause-slots c =
    let os = c.args.slots.now.slots in let p = c.args.place in
    let e = entry_placed (slot_at os c.args.slot) c.in-Some.other (sym c.place.ensures ∙ c.in-Some.is) in
    let none : pane_of p (slot_at os c.args.slot) ≡ None = rw (e.1, apart_place p c.in-Some.other (λ same. c.if-other-place.false (ap (λ (x : Place). of_z w64 x.start) (sym same)))) refl in
    (rw c.rebuilt_place.ensures at c.start.ensures c.args.kinds.now) ∙ ap (λ o. let x : Slotted = record c.args.slots.now { slots = set os c.args.slot (Some (p, with_one_more c.args.kinds.now c.args.values.now o)) } in x) (sym none)

pub returns-in-Some-2-clause-len : goal.returns-in-Some-2-clause-len
returns-in-Some-2-clause-len c =
    let os = c.args.slots.now.slots in let p = c.args.place in
    let e = entry_placed (slot_at os c.args.slot) c.in-Some.other (sym c.place.ensures ∙ c.in-Some.is) in
    let new : Place × Pane (List Value) = (p, with_one_more c.args.kinds.now c.args.values.now None) in
    let slots : c.start.new.self.slots ≡ set os c.args.slot (Some new) = ap (λ s. s.slots) (rw c.rebuilt_place.ensures at c.start.ensures c.args.kinds.now) in
    omega (arith, ap (λ ns. length (held ns)) slots, count_put os c.args.slot new c.requires.slot, ap (λ (o : Option (Place × Pane (List Value))). option_len o) e.1)

pub returns-in-None-clause-slots : goal.returns-in-None-clause-slots
returns-in-None-clause-slots c =
    let os = c.args.slots.now.slots in let p = c.args.place in
    let none = ap (pane_of p) (none_placed (slot_at os c.args.slot) (sym c.place.ensures ∙ c.in-None.is)) in
    (rw c.rebuilt_place-in-None.ensures at c.start-in-None.ensures c.args.kinds.now) ∙ ap (λ o. let x : Slotted = record c.args.slots.now { slots = set os c.args.slot (Some (p, with_one_more c.args.kinds.now c.args.values.now o)) } in x) (sym none)

pub returns-in-None-clause-len : goal.returns-in-None-clause-len
returns-in-None-clause-len c =
    let os = c.args.slots.now.slots in let p = c.args.place in
    let none = none_placed (slot_at os c.args.slot) (sym c.place.ensures ∙ c.in-None.is) in
    let new : Place × Pane (List Value) = (p, with_one_more c.args.kinds.now c.args.values.now None) in
    let slots : c.start-in-None.new.self.slots ≡ set os c.args.slot (Some new) = ap (λ s. s.slots) (rw c.rebuilt_place-in-None.ensures at c.start-in-None.ensures c.args.kinds.now) in
    omega (arith, ap (λ ns. length (held ns)) slots, count_put os c.args.slot new c.requires.slot, ap (λ (o : Option (Place × Pane (List Value))). option_len o) none)
