use Rattle.std.proofs.Common.{ap, sym, ◌∙◌, SFits, w64, to_z-of_z}
use Rattle.wsm_list.specs.Stored.{shown}
use Rattle.wsm_list.proofs.Edited.{dropped}
use Rattle.wsm_list.proofs.Tables.{map_of}
use Rattle.wsm_list.proofs.list.ListTablePaneTablePane.drop_expired.Goals as goal

pub invariant_of-self : goal.invariant_of-self
invariant_of-self c =
    let limit : SFits w64 c.args.limit = c.ranges.limit in
    let left = simp to_z-of_z at c.ended-count.ensures.left in
    let e = dropped _ _ c.self.invariant.stored c.self.invariant.listed c.args.limit c.ended-count.result _ left c.clear_first.ensures.cleared in
    record {
      stored = rw c.drop_first.ensures.row e.stored;
      listed = rw c.drop_first.ensures.row e.listed;
      room = c.drop_first.ensures.room ∙ c.self.invariant.room ∙ sym e.long;
    }

pub returns-clause-panes : goal.returns-clause-panes
returns-clause-panes c =
    let limit : SFits w64 c.args.limit = c.ranges.limit in
    let left = simp to_z-of_z at c.ended-count.ensures.left in
    let e = dropped _ _ c.self.invariant.stored c.self.invariant.listed c.args.limit c.ended-count.result _ left c.clear_first.ensures.cleared in
    rw (← c.self.view_is) (ap (λ row. map_of (shown c.clear_first.new.slots.slots row)) c.drop_first.ensures.row ∙ e.is)
