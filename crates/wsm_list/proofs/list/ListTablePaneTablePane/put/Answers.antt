use Rattle.std.proofs.Common.{◌≡◌, ◌<◌, ◌∙◌, Some, ap, sym, inl, inr, arith, set, length}
use Rattle.std.proofs.lemmas.Bool.{true≢false}
use Rattle.std.specs.Option.{is_some}
use Rattle.wsm_list.specs.Stored.{shown}
use Rattle.wsm_list.proofs.Edited.{added, over}
use Rattle.wsm_list.proofs.StoredEdits.{fits_in, slot_there}
use Rattle.wsm_list.proofs.Tables.{map_of}
use Rattle.wsm_list.proofs.list.ListTablePaneTablePane.put.Goals as goal

pub put-requires-clause-slot : goal.put-requires-clause-slot
put-requires-clause-slot c = slot_there _ _ c.self.invariant.stored c.in-Ok.i c.get.result c.get.ensures.here

pub insert-requires-clause-room : goal.insert-requires-clause-room
insert-requires-clause-room c = elim (fits_in _ _ c.self.invariant.stored c.args.place c.self.inside.row.room (rw (← c.self.view_is) at c.requires.admits)) [
  | inl there ↦ absurd (true≢false (sym there ∙ ap is_some c.in-Err.ensures.absent.absent))
  | inr room ↦ room
]

pub invariant_of-self : goal.invariant_of-self
invariant_of-self c =
    let k = c.get.result in
    let e = over _ _ c.self.invariant.stored c.self.invariant.listed c.in-Ok.i k c.args.place c.args.pane c.get.ensures.here c.in-Ok.ensures.found c.get.ensures.once in
    let new : c.put.new.self.slots ≡ set c.self.inside.slots.slots k (Some (c.args.place, c.args.pane)) = ap (λ s. s.slots) c.put.ensures ∙ ap (λ v. set c.self.inside.slots.slots k (Some (c.args.place, v))) c.view.ensures in
    record { stored = rw new e.stored; listed = rw new e.listed; room = c.self.invariant.room ∙ sym (ap length new ∙ e.long) }

pub returns-in-Ok-clause-panes : goal.returns-in-Ok-clause-panes
returns-in-Ok-clause-panes c =
    let k = c.get.result in
    let e = over _ _ c.self.invariant.stored c.self.invariant.listed c.in-Ok.i k c.args.place c.args.pane c.get.ensures.here c.in-Ok.ensures.found c.get.ensures.once in
    let new : c.put.new.self.slots ≡ set c.self.inside.slots.slots k (Some (c.args.place, c.args.pane)) = ap (λ s. s.slots) c.put.ensures ∙ ap (λ v. set c.self.inside.slots.slots k (Some (c.args.place, v))) c.view.ensures in
    rw (← c.self.view_is) (ap (λ ns. map_of (shown ns c.self.inside.row.row)) new ∙ e.is)

pub invariant_of-self-in-Err : goal.invariant_of-self-in-Err
invariant_of-self-in-Err c =
    let os = c.self.inside.slots.slots in
    let k = c.insert.result in
    let within : k < length os = omega (arith, c.insert.ensures.within, c.self.invariant.room) in
    let e = added _ _ c.self.invariant.stored c.self.invariant.listed c.in-Err.i k c.args.place c.args.pane c.in-Err.ensures.absent within c.in-Err.ensures.until c.insert.ensures.fresh in
    let new : c.put-in-Err.new.self.slots ≡ set os k (Some (c.args.place, c.args.pane)) = ap (λ s. s.slots) c.put-in-Err.ensures ∙ ap (λ v. set os k (Some (c.args.place, v))) c.view-in-Err.ensures in
    record {
      stored = rw (new, c.insert.ensures.row) e.stored;
      listed = rw (new, c.insert.ensures.row) e.listed;
      room = c.insert.ensures.room ∙ c.self.invariant.room ∙ sym (ap length new ∙ e.long);
    }

pub returns-in-Err-clause-panes : goal.returns-in-Err-clause-panes
returns-in-Err-clause-panes c =
    let os = c.self.inside.slots.slots in
    let k = c.insert.result in
    let within : k < length os = omega (arith, c.insert.ensures.within, c.self.invariant.room) in
    let e = added _ _ c.self.invariant.stored c.self.invariant.listed c.in-Err.i k c.args.place c.args.pane c.in-Err.ensures.absent within c.in-Err.ensures.until c.insert.ensures.fresh in
    let new : c.put-in-Err.new.self.slots ≡ set os k (Some (c.args.place, c.args.pane)) = ap (λ s. s.slots) c.put-in-Err.ensures ∙ ap (λ v. set os k (Some (c.args.place, v))) c.view-in-Err.ensures in
    rw (← c.self.view_is) ((λ j. map_of (shown (new j) (c.insert.ensures.row j))) ∙ e.is)
