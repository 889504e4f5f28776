use Rattle.std.proofs.Common.{ap, sym, ◌∙◌, SFits, w64, to_z-of_z}
use Rattle.wsm_list.specs.Stored.{shown}
use Rattle.wsm_slots.specs.Walk.{place_due}
use Rattle.wsm_list.proofs.Tables.{entries_are}
use Rattle.wsm_list.proofs.Spots.{any_spot}
use Rattle.wsm_list.proofs.list.ListTablePaneTablePane.first_due_after.Goals as goal

pub returns-clause-place : goal.returns-clause-place
returns-clause-place c =
    let limit : SFits w64 c.args.limit = c.ranges.limit in
    let after : SFits w64 c.args.after = c.ranges.after in
    let due = simp to_z-of_z at c.due_at.ensures in
    let after_is = entries_are (shown c.self.inside.slots.slots c.self.inside.row.row) c.self.invariant.stored.sorted in
    due ∙ rw (← c.self.view_is, after_is) (sym (ap (place_due c.args.limit) (simp to_z-of_z at c.ended-at.ensures.next)))

pub returns-clause-spot : goal.returns-clause-spot
returns-clause-spot c = any_spot c.due_at.result
