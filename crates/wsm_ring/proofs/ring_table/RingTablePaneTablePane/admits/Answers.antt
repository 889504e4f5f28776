use Rattle.std.proofs.Common.{Some, ap, arith, inl, inr, refl, sym, ◌∙◌}
use Rattle.std.proofs.lemmas.Option.{none-some, same_Some}
use Rattle.wsm_windows.specs.declared.place.Place.{Place}
use Rattle.wsm_ring.specs.Ring.{IsOfRing}
use Rattle.wsm_slots.specs.Slots.{slot_at}
use Rattle.wsm_slots.proofs.Order.{Decides-eq_place}
use Rattle.wsm_ring.proofs.Placed.{own_slot, admits_free, admits_own, entry_placed, none_placed}
use Rattle.wsm_ring.proofs.Rings.{slot_within}
use Rattle.wsm_ring.proofs.ring_table.RingTablePaneTablePane.admits.Goals as goal

pub place-requires : goal.place-requires
place-requires c =
    let a = c.self.inside in
    let of : IsOfRing a.ring c.args.place = c.has.ensures.0 c.if-has.true in
    omega (arith, c.slot.ensures, c.self.invariant.slots, slot_within a.ring c.args.place c.self.invariant.ring of)

pub returns-in-Some : goal.returns-in-Some
returns-in-Some c =
    let a = c.self.inside in
    let of : IsOfRing a.ring c.args.place = c.has.ensures.0 c.if-has.true in
    let e = entry_placed (slot_at a.slots.slots c.slot.result) c.in-Some.other (sym c.place.ensures ∙ c.in-Some.is) in
    let at = ap (slot_at a.slots.slots) (sym c.slot.ensures) ∙ e.1 in
    let test = Decides-eq_place c.in-Some.other c.args.place in
    rw (← c.self.view_is) (
      λ is. admits_own a.ring a.slots.slots c.args.place e.0 c.self.invariant.placed of (at ∙ ap (λ (x : Place). Some (x, e.0)) (test.0 (sym c.eq.ensures ∙ is))),
      λ admits. elim (own_slot a.ring a.slots.slots c.args.place c.self.invariant.placed admits) [
        | inl none ↦ absurd (none-some _ (sym none ∙ at))
        | inr own ↦ c.eq.ensures ∙ test.1 (ap (λ e. e.0) (same_Some _ _ (sym at ∙ own.1)))
      ],
    )

pub returns-in-None : goal.returns-in-None
returns-in-None c =
    let a = c.self.inside in
    let of : IsOfRing a.ring c.args.place = c.has.ensures.0 c.if-has.true in
    let at = ap (slot_at a.slots.slots) (sym c.slot.ensures) ∙ none_placed (slot_at a.slots.slots c.slot.result) (sym c.place.ensures ∙ c.in-None.is) in
    rw (← c.self.view_is) (λ _. admits_free a.ring a.slots.slots c.args.place c.self.invariant.placed of at, λ _. refl)
