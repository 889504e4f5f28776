use Rattle.std.proofs.Common.{◌≡◌, ◌<◌, ◌∙◌, List, Some, None, ap, subst, sym, inl, inr, arith, set, length}
use Rattle.std.proofs.lemmas.Bool.{true≢false}
use Rattle.std.specs.Option.{is_some}
use Rattle.std.specs.Prelude.{IfSome, Option, option_map}
use Rattle.std.specs.FinMap as map
use Rattle.wsm_record.specs.declared.event.Value.{Value}
use Rattle.wsm_windows.specs.declared.place.Place.{Place}
use Rattle.wsm_semantics.specs.Summaries.{Pane}
use Rattle.wsm_slots.specs.Panes.{CanRecord, with_one_more}
use Rattle.wsm_list.specs.Stored.{shown}
use Rattle.wsm_list.proofs.Edited.{added, over, own_pane}
use Rattle.wsm_list.proofs.StoredEdits.{fits_in, has_entry}
use Rattle.wsm_list.proofs.Tables.{get_is, map_of}
use Rattle.wsm_list.proofs.list.ListTablePaneTablePane.enter.Goals as goal

pub record-requires-clause-there : goal.record-requires-clause-there
record-requires-clause-there c = has_entry _ _ c.self.invariant.stored c.in-Ok.i c.get.result c.get.ensures.here

pub record-requires-clause-takes : goal.record-requires-clause-takes
record-requires-clause-takes c =
    let own = own_pane _ _ c.self.invariant.stored c.in-Ok.i c.get.result c.args.place c.get.ensures.here c.in-Ok.ensures.found in
    let takes = rw (← c.self.view_is) at c.requires.takes in
    subst (λ o. IfSome o (λ e. CanRecord c.args.kinds.now c.args.values.now e.1)) (sym own.1.0) (subst (λ o. IfSome o (CanRecord c.args.kinds.now c.args.values.now)) own.1.1 takes)

pub insert-requires-clause-room : goal.insert-requires-clause-room
insert-requires-clause-room c = elim (fits_in _ _ c.self.invariant.stored c.args.place c.self.inside.row.room (rw (← c.self.view_is) at c.requires.admits)) [
  | inl there ↦ absurd (true≢false (sym there ∙ ap is_some c.in-Err.ensures.absent.absent))
  | inr room ↦ room
]

pub invariant_of-self : goal.invariant_of-self
invariant_of-self c =
    let os = c.self.inside.slots.slots in
    let k = c.get.result in
    let own = own_pane _ _ c.self.invariant.stored c.in-Ok.i k c.args.place c.get.ensures.here c.in-Ok.ensures.found in
    let v = with_one_more c.args.kinds.now c.args.values.now (Some own.0) in
    let e = over _ _ c.self.invariant.stored c.self.invariant.listed c.in-Ok.i k c.args.place v c.get.ensures.here c.in-Ok.ensures.found c.get.ensures.once in
    let more : Option (Place × Pane (List Value)) → Option (Place × Pane (List Value)) = option_map (λ e. (e.0, with_one_more c.args.kinds.now c.args.values.now (Some e.1))) in
    let new : c.record.new.self.slots ≡ set os k (Some (c.args.place, v)) = ap (λ s. s.slots) c.record.ensures ∙ ap (λ o. set os k (more o)) own.1.0 in
    record { stored = rw new e.stored; listed = rw new e.listed; room = c.self.invariant.room ∙ sym (ap length new ∙ e.long) }

pub returns-in-Ok-clause-panes : goal.returns-in-Ok-clause-panes
returns-in-Ok-clause-panes c =
    let os = c.self.inside.slots.slots in
    let k = c.get.result in
    let own = own_pane _ _ c.self.invariant.stored c.in-Ok.i k c.args.place c.get.ensures.here c.in-Ok.ensures.found in
    let v = with_one_more c.args.kinds.now c.args.values.now (Some own.0) in
    let e = over _ _ c.self.invariant.stored c.self.invariant.listed c.in-Ok.i k c.args.place v c.get.ensures.here c.in-Ok.ensures.found c.get.ensures.once in
    let more : Option (Place × Pane (List Value)) → Option (Place × Pane (List Value)) = option_map (λ e. (e.0, with_one_more c.args.kinds.now c.args.values.now (Some e.1))) in
    let new : c.record.new.self.slots ≡ set os k (Some (c.args.place, v)) = ap (λ s. s.slots) c.record.ensures ∙ ap (λ o. set os k (more o)) own.1.0 in
    rw (← c.self.view_is)
    (ap (λ ns. map_of (shown ns c.self.inside.row.row)) new ∙ e.is ∙ ap (λ o. map.insert (map_of (shown os c.self.inside.row.row)) c.args.place (with_one_more c.args.kinds.now c.args.values.now o)) (sym own.1.1))

pub invariant_of-self-in-Err : goal.invariant_of-self-in-Err
invariant_of-self-in-Err c =
    let os = c.self.inside.slots.slots in
    let k = c.insert.result in
    let within : k < length os = omega (arith, c.insert.ensures.within, c.self.invariant.room) in
    let v = with_one_more c.args.kinds.now c.args.values.now None in
    let e = added _ _ c.self.invariant.stored c.self.invariant.listed c.in-Err.i k c.args.place v c.in-Err.ensures.absent within c.in-Err.ensures.until c.insert.ensures.fresh in
    let new : c.start.new.self.slots ≡ set os k (Some (c.args.place, v)) = ap (λ s. s.slots) (c.start.ensures c.args.kinds.now) in
    record {
      stored = rw (new, c.insert.ensures.row) e.stored;
      listed = rw (new, c.insert.ensures.row) e.listed;
      room = c.insert.ensures.room ∙ c.self.invariant.room ∙ sym (ap length new ∙ e.long);
    }

pub returns-in-Err-clause-panes : goal.returns-in-Err-clause-panes
returns-in-Err-clause-panes c =
    let os = c.self.inside.slots.slots in
    let k = c.insert.result in
    let within : k < length os = omega (arith, c.insert.ensures.within, c.self.invariant.room) in
    let v = with_one_more c.args.kinds.now c.args.values.now None in
    let e = added _ _ c.self.invariant.stored c.self.invariant.listed c.in-Err.i k c.args.place v c.in-Err.ensures.absent within c.in-Err.ensures.until c.insert.ensures.fresh in
    let new : c.start.new.self.slots ≡ set os k (Some (c.args.place, v)) = ap (λ s. s.slots) (c.start.ensures c.args.kinds.now) in
    let none = get_is (shown os c.self.inside.row.row) c.self.invariant.stored.sorted c.args.place ∙ c.in-Err.ensures.absent.absent in
    rw (← c.self.view_is)
    ((λ j. map_of (shown (new j) (c.insert.ensures.row j))) ∙ e.is ∙ ap (λ o. map.insert (map_of (shown os c.self.inside.row.row)) c.args.place (with_one_more c.args.kinds.now c.args.values.now o)) (sym none))

pub returns-in-Err-clause-room : goal.returns-in-Err-clause-room
returns-in-Err-clause-room c = rw (← c.self.view_is) (λ j. (c.insert.ensures.room j, ap (λ s. s.widths) (c.start.ensures c.args.kinds.now) j))
