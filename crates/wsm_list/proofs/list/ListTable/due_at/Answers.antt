use Rattle.std.proofs.Common.{ap, sym, ◌∙◌, arith, SFits, w64, to_z-of_z}
use Rattle.std.proofs.lemmas.Option.{slice_get_past}
use Rattle.wsm_list.specs.Stored.{shown}
use Rattle.wsm_slots.specs.Walk.{place_due}
use Rattle.wsm_list.proofs.StoredEdits.{due_place, length_is}
use Rattle.wsm_list.proofs.Tables.{entries_are}
use Rattle.wsm_list.proofs.list.ListTable.due_at.Goals as goal

pub returns-then-at-len : goal.returns-then-at-len
returns-then-at-len c =
    let limit : SFits w64 c.args.limit = c.ranges.limit in
    rw (← c.self.view_is, entries_are (shown c.self.inside.slots.slots c.self.inside.row.row) c.self.invariant.stored.sorted)
    ((simp to_z-of_z at c.due.ensures) ∙ sym (due_place c.args.limit _ _ c.place_at.ensures))

pub returns-else-at-len : goal.returns-else-at-len
returns-else-at-len c =
    let es = shown c.self.inside.slots.slots c.self.inside.row.row in
    rw (← c.self.view_is, entries_are es c.self.invariant.stored.sorted)
    (sym (ap (place_due c.args.limit) (slice_get_past es c.args.at (omega (arith, length_is _ _ c.self.invariant.stored, c.len.ensures)))))
