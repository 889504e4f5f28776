use Rattle.std.proofs.Common.{sym, ◌∙◌}
use Rattle.wsm_list.proofs.SlotRows.{gone, shifted_apart}
use Rattle.wsm_list.proofs.slot_row.SlotRow.shift.Goals as goal

pub invariant_of-self : goal.invariant_of-self
invariant_of-self c =
    let inside = rw (← c.self.view_is) at c.requires.from in
    let within = rw (← c.self.view_is) at c.requires.to in
    (rw (c.shift.ensures.room, c.shift.ensures.items) (shifted_apart _ c.args.from c.args.to _ inside within c.shift.ensures.here _ _ c.self.invariant.0), c.self.invariant.1 ∙ sym c.shift.ensures.room)

pub returns-clause-fresh : goal.returns-clause-fresh
returns-clause-fresh c =
    let inside = rw (← c.self.view_is) at c.requires.from in
    let within = rw (← c.self.view_is) at c.requires.to in
    rw (← c.self.view_is) (gone _ c.args.from c.args.to _ inside within c.shift.ensures.here _ _ c.self.invariant.0)
