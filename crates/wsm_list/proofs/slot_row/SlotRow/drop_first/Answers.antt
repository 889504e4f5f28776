use Rattle.std.proofs.Common.{◌≤◌, take, ap, sym, ◌∙◌, arith, length, length-append}
use Rattle.std.proofs.lemmas.List.{length-drop, length-take-le}
use Rattle.wsm_list.specs.Stored.{listed}
use Rattle.wsm_list.proofs.SlotRows.{listed-append, listed_parts}
use Rattle.wsm_list.proofs.slot_row.SlotRow.drop_first.Goals as goal

pub invariant_of-self : goal.invariant_of-self
invariant_of-self c =
    let a = c.self.inside in
    let n = c.args.count in
    let xs = a.row.items in
    let within : n ≤ length xs = rw (← c.self.view_is) at c.requires in
    let freed = c.add_first.ensures.items in (
      rw (c.drop_first.ensures.room) (record {
        once = λ s.
            let sum = c.self.invariant.0.once s in
            let left = ap (listed s) c.drop_first.ensures.items in
            let more = ap (listed s) freed ∙ listed-append s a.free.items (take n xs) in
            omega (arith, sum, left, more, listed_parts s n xs);
        count =
            let left = ap length c.drop_first.ensures.items in
            let more = ap length freed ∙ length-append a.free.items (take n xs) in
            omega (arith, c.self.invariant.0.count, left, more, length-drop n xs, length-take-le n xs within, within);
      }),
      c.add_first.ensures.capacity ∙ c.self.invariant.1 ∙ sym c.drop_first.ensures.room,
    )
