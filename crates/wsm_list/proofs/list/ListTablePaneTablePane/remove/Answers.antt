use Rattle.std.proofs.Common.{◌≡◌, ◌∙◌, None, length, set, ap, sym}
use Rattle.wsm_list.specs.Stored.{shown}
use Rattle.wsm_list.proofs.Edited.{removed}
use Rattle.wsm_list.proofs.RemovedEntries.{none_out}
use Rattle.wsm_list.proofs.StoredEdits.{slot_there}
use Rattle.wsm_list.proofs.Tables.{map_of, others_are}
use Rattle.wsm_list.proofs.list.ListTablePaneTablePane.remove.Goals as goal

pub clear-requires : goal.clear-requires
clear-requires c = slot_there _ _ c.self.invariant.stored c.in-Ok.i c.get.result c.get.ensures.here

pub invariant_of-self : goal.invariant_of-self
invariant_of-self c =
    let e = removed _ _ c.self.invariant.stored c.self.invariant.listed c.in-Ok.i c.get.result c.args.place c.get.ensures.here c.in-Ok.ensures.found in
    let new : c.clear.new.self.slots ≡ set c.self.inside.slots.slots c.get.result None = ap (λ s. s.slots) c.clear.ensures in
    record {
      stored = rw (new, c.remove.ensures.row) e.stored;
      listed = rw (new, c.remove.ensures.row) e.listed;
      room = c.remove.ensures.room ∙ c.self.invariant.room ∙ sym (ap length new ∙ e.long);
    }

pub returns-in-Ok-clause-panes : goal.returns-in-Ok-clause-panes
returns-in-Ok-clause-panes c =
    let e = removed _ _ c.self.invariant.stored c.self.invariant.listed c.in-Ok.i c.get.result c.args.place c.get.ensures.here c.in-Ok.ensures.found in
    rw (← c.self.view_is) ((λ j. map_of (shown (ap (λ s. s.slots) c.clear.ensures j) (c.remove.ensures.row j))) ∙ e.is)

pub returns-in_default-clause-panes : goal.returns-in_default-clause-panes
returns-in_default-clause-panes c =
    let es = shown c.self.inside.slots.slots c.self.inside.row.row in
    rw (← c.self.view_is) (ap map_of (none_out c.args.place es c.in_default.ensures.absent.absent) ∙ others_are es c.self.invariant.stored.sorted c.args.place)
