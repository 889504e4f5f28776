use Rattle.std.proofs.Common.{◌≡◌, ◌<◌, ◌≤◌, ◌∙◌, List, Some, None, ap, arith, subst, sym, set, length}
use Rattle.std.proofs.lemmas.List.{get_or-set_same, length-set, set-set}
use Rattle.std.specs.Prelude.{IfSome, IsSome, Option, option_map}
use Rattle.std.specs.List.{insert, remove}
use Rattle.std.specs.FinMap as map
use Rattle.std.specs.FinMap.Entries.{find}
use Rattle.wsm_record.specs.declared.event.Value.{Value}
use Rattle.wsm_windows.specs.declared.place.Place.{Place}
use Rattle.wsm_windows.specs.Places.{place_cmp}
use Rattle.wsm_semantics.specs.Summaries.{Pane}
use Rattle.wsm_semantics.proofs.ManyKeys.{in_order}
use Rattle.wsm_slots.specs.Panes.{CanRecord, with_one_more}
use Rattle.wsm_slots.specs.Slots.{slot_at}
use Rattle.wsm_list.specs.Search.{before, IsAt, IsGapFor}
use Rattle.wsm_list.specs.Stored.{AreStored, shown}
use Rattle.wsm_list.proofs.Edited.{own_pane, shifted}
use Rattle.wsm_list.proofs.Gaps.{before_left, before_past, found_at, gap_absent}
use Rattle.wsm_list.proofs.Stored.{shown_remove}
use Rattle.wsm_list.proofs.StoredEdits.{has_entry, length_is, removed_shows, removed_stored, slot_there}
use Rattle.wsm_list.proofs.Tables.{get_is, map_of, others_are}
use Rattle.wsm_list.proofs.list.ListTable.move_in.Goals as goal
use Rattle.wsm_list.proofs.list.ListTable.move_in.Goals.{After-number_at-old, After-shift-slot, After-move_to, then-old-gap, else-old-gap}

pub number_at-old-requires-clause-there : goal.number_at-old-requires-clause-there
number_at-old-requires-clause-there c = rw (← c.self.view_is, get_is (shown c.self.inside.slots.slots c.self.inside.row.row) c.self.invariant.stored.sorted c.args.from) at c.requires.there

-- the entry stands at the number that was found
here : (c : After-number_at-old) → IsAt (shown c.self.inside.slots.slots c.self.inside.row.row) c.args.from c.number_at-old.result
here c =
    let es = shown c.self.inside.slots.slots c.self.inside.row.row in
    let there : IsSome (find place_cmp c.args.from es) = rw (← c.self.view_is, get_is es c.self.invariant.stored.sorted c.args.from) at c.requires.there in
    subst (IsAt es c.args.from) (sym c.number_at-old.ensures) (found_at c.args.from es c.self.invariant.stored.sorted there)

inside : (c : After-number_at-old) → c.number_at-old.result < length c.self.inside.row.row
inside c =
    let at = here c in
    let long = length_is _ _ c.self.invariant.stored in
    omega (arith, at.within, long)

pub shift-slot-requires-clause-from : goal.shift-slot-requires-clause-from
shift-slot-requires-clause-from c = inside (goal.at.shift-slot-requires-clause-from c).After-number_at-old

pub shift-slot-requires-clause-to : goal.shift-slot-requires-clause-to
shift-slot-requires-clause-to c =
    let old = inside (goal.at.shift-slot-requires-clause-to c).After-number_at-old in
    elim c.if-old-gap.branch [
      | then-old-gap w ↦ omega (arith, w.if-old-gap.true, w.new-is, c.count_before-gap.ensures.within)
      | else-old-gap w ↦ omega (arith, w.if-old-gap.false, w.new-is, old)
    ]

pub record-requires-clause-there : goal.record-requires-clause-there
record-requires-clause-there c = has_entry _ _ c.self.invariant.stored c.number_at-old.result c.shift-slot.result c.shift-slot.ensures.here

pub record-requires-clause-takes : goal.record-requires-clause-takes
record-requires-clause-takes c =
    let w = (goal.at.record-requires-clause-takes c).After-number_at-old in
    let own = own_pane _ _ c.self.invariant.stored c.number_at-old.result c.shift-slot.result c.args.from c.shift-slot.ensures.here (here w) in
    let takes = rw (← c.self.view_is) at c.requires.takes in
    subst (λ o. IfSome o (λ e. CanRecord c.args.kinds.now c.args.values.now e.1)) (sym own.1.0) (subst (λ o. IfSome o (CanRecord c.args.kinds.now c.args.values.now)) own.1.1 takes)

pub move_to-requires : goal.move_to-requires
move_to-requires c =
    let long = ap (λ s. length s.slots) c.record.ensures ∙ length-set c.self.inside.slots.slots c.shift-slot.result _ in
    let within = slot_there _ _ c.self.invariant.stored c.number_at-old.result c.shift-slot.result c.shift-slot.ensures.here in
    omega (arith, long, within)

-- its slot comes to stand where the place would go among the others
module _ (c : After-shift-slot) (at : IsAt (shown c.self.inside.slots.slots c.self.inside.row.row) c.args.from c.number_at-old.result) where
  rest_stored : AreStored c.self.inside.slots.slots (remove c.self.inside.row.row c.number_at-old.result)
  rest_stored = removed_stored _ _ c.self.invariant.stored c.number_at-old.result c.args.from at

  rest_shows : shown c.self.inside.slots.slots (remove c.self.inside.row.row c.number_at-old.result) ≡ remove (shown c.self.inside.slots.slots c.self.inside.row.row) c.number_at-old.result
  rest_shows = shown_remove c.self.inside.slots.slots c.number_at-old.result c.self.inside.row.row c.self.invariant.stored.there

  new_is : c.if-old-gap.new ≡ before place_cmp c.args.to (remove (shown c.self.inside.slots.slots c.self.inside.row.row) c.number_at-old.result)
  new_is =
      let es = shown c.self.inside.slots.slots c.self.inside.row.row in
      let stops = c.count_before-gap.ensures.count in
      elim c.if-old-gap.branch [
        | then-old-gap w ↦
            let first : c.number_at-old.result < before place_cmp c.args.to es = omega (arith, w.if-old-gap.true, stops) in
            let past = before_past c.args.to es c.number_at-old.result first in
            omega (arith, w.new-is, past, stops)
        | else-old-gap w ↦
            let last : before place_cmp c.args.to es ≤ c.number_at-old.result = omega (arith, w.if-old-gap.false, stops) in
            w.new-is ∙ stops ∙ sym (before_left c.args.to es c.number_at-old.result (in_order es c.self.invariant.stored.sorted) at.within last)
      ]

  gap : IsGapFor (shown c.self.inside.slots.slots (remove c.self.inside.row.row c.number_at-old.result)) c.args.to c.if-old-gap.new
  gap =
      let rest = shown c.self.inside.slots.slots (remove c.self.inside.row.row c.number_at-old.result) in
      let none = rw (← c.self.view_is) at c.requires.absent in
      let left = ap map_of (removed_shows _ _ c.self.invariant.stored c.number_at-old.result c.args.from at) ∙ others_are (shown c.self.inside.slots.slots c.self.inside.row.row) c.self.invariant.stored.sorted c.args.from in
      let absent : find place_cmp c.args.to rest ≡ None = sym (ap (λ m. map.get m c.args.to) (sym left) ∙ get_is rest rest_stored.sorted c.args.to) ∙ none in
      subst (IsGapFor rest c.args.to) (sym (new_is ∙ ap (before place_cmp c.args.to) (sym rest_shows))) (gap_absent c.args.to rest rest_stored.sorted absent)

  fits : c.if-old-gap.new ≤ length (remove c.self.inside.row.row c.number_at-old.result)
  fits = let long = length_is _ _ rest_stored in omega (arith, gap.within, long)

-- what the slots have then, where its slot had this pane
module _ (c : After-move_to) (w : Pane (List Value)) (was : slot_at c.self.inside.slots.slots c.shift-slot.result ≡ Some (c.args.from, w)) (within : c.shift-slot.result < length c.self.inside.slots.slots) where
  moved : c.move_to.new.self.slots ≡ set c.self.inside.slots.slots c.shift-slot.result (Some (c.args.to, with_one_more c.args.kinds.now c.args.values.now (Some w)))
  moved =
      let os = c.self.inside.slots.slots in
      let k = c.shift-slot.result in
      let more : Option (Place × Pane (List Value)) → Option (Place × Pane (List Value)) = option_map (λ e. (e.0, with_one_more c.args.kinds.now c.args.values.now (Some e.1))) in
      let move : Option (Place × Pane (List Value)) → Option (Place × Pane (List Value)) = option_map (λ e. (c.args.to, e.1)) in
      let v = with_one_more c.args.kinds.now c.args.values.now (Some w) in
      let recorded : c.record.new.self.slots ≡ set os k (Some (c.args.from, v)) = ap (λ s. s.slots) c.record.ensures ∙ ap (λ o. set os k (more o)) was in
      ap (λ s. s.slots) c.move_to.ensures
      ∙ ap (λ ns. set ns k (move (slot_at ns k))) recorded
      ∙ ap (λ o. set (set os k (Some (c.args.from, v))) k (move o)) (get_or-set_same os k (Some (c.args.from, v)) None within)
      ∙ set-set os k (Some (c.args.from, v)) (Some (c.args.to, v))

pub invariant_of-self : goal.invariant_of-self
invariant_of-self c =
    let g = goal.at.invariant_of-self c in
    let old = here g.After-number_at-old in
    let at = c.shift-slot.ensures.here in
    let own = own_pane _ _ c.self.invariant.stored c.number_at-old.result c.shift-slot.result c.args.from at old in
    let within = slot_there _ _ c.self.invariant.stored c.number_at-old.result c.shift-slot.result at in
    let v = with_one_more c.args.kinds.now c.args.values.now (Some own.0) in
    let new = moved g.After-move_to own.0 own.1.0 within in
    let e = shifted _ _ c.self.invariant.stored c.self.invariant.listed c.number_at-old.result c.if-old-gap.new c.shift-slot.result c.args.from c.args.to v at old (gap g.After-shift-slot old) within (fits g.After-shift-slot old) c.shift-slot.ensures.fresh in
    record {
      stored = rw (new, c.shift-slot.ensures.row) e.stored;
      listed = rw (new, c.shift-slot.ensures.row) e.listed;
      room = c.shift-slot.ensures.room ∙ c.self.invariant.room ∙ sym (ap length new ∙ e.long);
    }

pub returns : goal.returns
returns c =
    let g = goal.at.returns c in
    let os = c.self.inside.slots.slots in
    let old = here g.After-number_at-old in
    let at = c.shift-slot.ensures.here in
    let own = own_pane _ _ c.self.invariant.stored c.number_at-old.result c.shift-slot.result c.args.from at old in
    let within = slot_there _ _ c.self.invariant.stored c.number_at-old.result c.shift-slot.result at in
    let v = with_one_more c.args.kinds.now c.args.values.now (Some own.0) in
    let new = moved g.After-move_to own.0 own.1.0 within in
    let e = shifted _ _ c.self.invariant.stored c.self.invariant.listed c.number_at-old.result c.if-old-gap.new c.shift-slot.result c.args.from c.args.to v at old (gap g.After-shift-slot old) within (fits g.After-shift-slot old) c.shift-slot.ensures.fresh in
    let m = map_of (shown os c.self.inside.row.row) in
    let panes =
    (λ j. map_of (shown (new j) (c.shift-slot.ensures.row j))) ∙ e.is
    ∙ ap (λ o. map.insert (map.remove m c.args.from) c.args.to (with_one_more c.args.kinds.now c.args.values.now o)) (sym own.1.1) in
    record {
      panes = rw (← c.self.view_is) panes;
      keeps = record { room = rw (← c.self.view_is) c.shift-slot.ensures.room; widths = rw (← c.self.view_is) (ap (λ s. s.widths) c.move_to.ensures ∙ ap (λ s. s.widths) c.record.ensures) };
    }
