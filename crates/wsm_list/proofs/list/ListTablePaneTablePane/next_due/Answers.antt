use Rattle.std.proofs.Common.{ap, sym, ◌∙◌, arith, SFits, w64, to_z-of_z}
use Rattle.wsm_list.specs.Stored.{shown}
use Rattle.wsm_slots.specs.Walk.{place_due}
use Rattle.wsm_list.proofs.Tables.{entries_are, get_is}
use Rattle.wsm_list.proofs.Spots.{any_spot}
use Rattle.wsm_list.proofs.Walk.{after_at}
use Rattle.wsm_list.proofs.list.ListTablePaneTablePane.next_due.Goals as goal

pub number_of-at-requires-clause-there : goal.number_of-at-requires-clause-there
number_of-at-requires-clause-there c = rw (← c.self.view_is, get_is (shown c.self.inside.slots.slots c.self.inside.row.row) c.self.invariant.stored.sorted c.args.spot.place) at c.requires.there

pub overflow_add-at : goal.overflow_add-at
overflow_add-at c = omega (arith, c.number_of-at.ensures.within, c.number_of-at.ensures.countable)

pub returns-clause-place : goal.returns-clause-place
returns-clause-place c =
    let limit : SFits w64 c.args.limit = c.ranges.limit in
    let sorted = c.self.invariant.stored.sorted in
    let due = simp to_z-of_z at c.due_at.ensures in
    due ∙ rw (← c.self.view_is, entries_are (shown c.self.inside.slots.slots c.self.inside.row.row) sorted) (sym (ap (place_due c.args.limit) (after_at c.args.spot.place (shown c.self.inside.slots.slots c.self.inside.row.row) c.number_of-at.result sorted c.number_of-at.ensures.at)))

pub returns-clause-spot : goal.returns-clause-spot
returns-clause-spot c = any_spot c.due_at.result
