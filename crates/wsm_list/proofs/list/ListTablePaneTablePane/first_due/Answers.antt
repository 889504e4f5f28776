use Rattle.std.proofs.Common.{SFits, w64, to_z-of_z}
use Rattle.wsm_list.proofs.Spots.{any_spot}
use Rattle.wsm_list.proofs.list.ListTablePaneTablePane.first_due.Goals as goal

pub returns-clause-place : goal.returns-clause-place
returns-clause-place c =
    let limit : SFits w64 c.args.limit = c.ranges.limit in
    simp to_z-of_z at c.due_at.ensures

pub returns-clause-spot : goal.returns-clause-spot
returns-clause-spot c = any_spot c.due_at.result
