use Rattle.std.proofs.Common.{ap, ◌∙◌}
use Rattle.std.specs.Option.{is_some}
use Rattle.wsm_list.specs.Stored.{shown}
use Rattle.wsm_slots.proofs.Entry.{none_found, some_found}
use Rattle.wsm_list.proofs.StoredEdits.{is_found}
use Rattle.wsm_list.proofs.Tables.{get_is}
use Rattle.wsm_list.proofs.list.ListTablePaneTablePane.find.Goals as goal

pub returns-in-Ok-clause-place : goal.returns-in-Ok-clause-place
returns-in-Ok-clause-place c = rw (← c.self.view_is) (some_found c.args.place _ (ap is_some (get_is (shown c.self.inside.slots.slots c.self.inside.row.row) c.self.invariant.stored.sorted c.args.place) ∙ is_found (shown c.self.inside.slots.slots c.self.inside.row.row) c.in-Ok.at c.args.place c.in-Ok.ensures.found))

pub returns-in-Err-clause-place : goal.returns-in-Err-clause-place
returns-in-Err-clause-place c = rw (← c.self.view_is) (none_found c.args.place _ (ap is_some (get_is (shown c.self.inside.slots.slots c.self.inside.row.row) c.self.invariant.stored.sorted c.args.place ∙ c.in-Err.ensures.absent.absent)))
