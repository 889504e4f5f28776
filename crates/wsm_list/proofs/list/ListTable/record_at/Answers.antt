use Rattle.std.proofs.Common.{◌≡◌, ◌∙◌, List, Some, ap, refl, subst, sym, set, length}
use Rattle.std.specs.Prelude.{IfSome, Option, option_map}
use Rattle.std.specs.FinMap as map
use Rattle.wsm_record.specs.declared.event.Value.{Value}
use Rattle.wsm_windows.specs.declared.place.Place.{Place}
use Rattle.wsm_semantics.specs.Summaries.{Pane}
use Rattle.wsm_slots.specs.Panes.{CanRecord, with_one_more}
use Rattle.wsm_list.specs.Stored.{shown}
use Rattle.wsm_list.proofs.Edited.{over, own_pane}
use Rattle.wsm_list.proofs.Moved.{insert_over}
use Rattle.wsm_list.proofs.StoredEdits.{has_entry}
use Rattle.wsm_list.proofs.Tables.{get_is, map_of}
use Rattle.wsm_list.proofs.list.ListTable.record_at.Goals as goal

pub slot_of-slot-requires-clause-there : goal.slot_of-slot-requires-clause-there
slot_of-slot-requires-clause-there c = rw (← c.self.view_is, get_is (shown c.self.inside.slots.slots c.self.inside.row.row) c.self.invariant.stored.sorted c.args.place) at c.requires.there

pub record-requires-clause-there : goal.record-requires-clause-there
record-requires-clause-there c = let of = c.slot_of-slot.ensures in has_entry _ _ c.self.invariant.stored of.number c.slot_of-slot.result of.here

pub record-requires-clause-takes : goal.record-requires-clause-takes
record-requires-clause-takes c =
    let of = c.slot_of-slot.ensures in
    let own = own_pane _ _ c.self.invariant.stored of.number c.slot_of-slot.result c.args.place of.here of.is in
    let takes = rw (← c.self.view_is) at c.requires.takes in
    subst (λ o. IfSome o (λ e. CanRecord c.args.kinds.now c.args.values.now e.1)) (sym own.1.0) (subst (λ o. IfSome o (CanRecord c.args.kinds.now c.args.values.now)) own.1.1 takes)

pub invariant_of-self : goal.invariant_of-self
invariant_of-self c =
    let os = c.self.inside.slots.slots in
    let k = c.slot_of-slot.result in
    let of = c.slot_of-slot.ensures in
    let own = own_pane _ _ c.self.invariant.stored of.number k c.args.place of.here of.is in
    let v = with_one_more c.args.kinds.now c.args.values.now (Some own.0) in
    let e = over _ _ c.self.invariant.stored c.self.invariant.listed of.number k c.args.place v of.here of.is of.once in
    let more : Option (Place × Pane (List Value)) → Option (Place × Pane (List Value)) = option_map (λ e. (e.0, with_one_more c.args.kinds.now c.args.values.now (Some e.1))) in
    let new : c.record.new.self.slots ≡ set os k (Some (c.args.place, v)) = ap (λ s. s.slots) c.record.ensures ∙ ap (λ o. set os k (more o)) own.1.0 in
    record { stored = rw new e.stored; listed = rw new e.listed; room = c.self.invariant.room ∙ sym (ap length new ∙ e.long) }

pub returns : goal.returns
returns c =
    let os = c.self.inside.slots.slots in
    let row = c.self.inside.row.row in
    let k = c.slot_of-slot.result in
    let of = c.slot_of-slot.ensures in
    let own = own_pane _ _ c.self.invariant.stored of.number k c.args.place of.here of.is in
    let v = with_one_more c.args.kinds.now c.args.values.now (Some own.0) in
    let e = over _ _ c.self.invariant.stored c.self.invariant.listed of.number k c.args.place v of.here of.is of.once in
    let more : Option (Place × Pane (List Value)) → Option (Place × Pane (List Value)) = option_map (λ e. (e.0, with_one_more c.args.kinds.now c.args.values.now (Some e.1))) in
    let new : c.record.new.self.slots ≡ set os k (Some (c.args.place, v)) = ap (λ s. s.slots) c.record.ensures ∙ ap (λ o. set os k (more o)) own.1.0 in
    let panes =
    ap (λ ns. map_of (shown ns row)) new ∙ e.is ∙ ap (λ o. map.insert (map_of (shown os row)) c.args.place (with_one_more c.args.kinds.now c.args.values.now o)) (sym own.1.1)
    ∙ insert_over (map_of (shown os row)) c.args.place _ in
    record {
      panes = rw (← c.self.view_is) panes;
      keeps = record { room = rw (← c.self.view_is) refl; widths = rw (← c.self.view_is) (ap (λ s. s.widths) c.record.ensures) };
    }
