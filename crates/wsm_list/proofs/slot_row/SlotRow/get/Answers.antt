use Rattle.wsm_list.proofs.SlotRows.{once_at}
use Rattle.wsm_list.proofs.slot_row.SlotRow.get.Goals as goal

pub returns-clause-once : goal.returns-clause-once
returns-clause-once c = rw (← c.self.view_is) (once_at _ _ _ c.self.invariant.0 c.args.at c.get.result c.get.ensures)
