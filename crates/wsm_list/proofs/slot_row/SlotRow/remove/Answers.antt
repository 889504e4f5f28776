use Rattle.std.proofs.Common.{◌≡◌, ◌+◌, ◌∷◌, [], ap, sym, ◌∙◌, arith, length-append}
use Rattle.std.specs.Prelude.{length}
use Rattle.wsm_list.specs.Stored.{listed}
use Rattle.std.proofs.lemmas.List.Edits.{length-remove}
use Rattle.wsm_list.proofs.SlotRows.{listed-append, listed_less}
use Rattle.wsm_list.proofs.slot_row.SlotRow.remove.Goals as goal

pub invariant_of-self : goal.invariant_of-self
invariant_of-self c =
    let a = c.self.inside in
    let slot = c.remove-slot.result in
    let within = rw (← c.self.view_is) at c.requires in
    let count : length c.remove-slot.new.self.items + 1 ≡ length a.row.items = let long = ap length c.remove-slot.ensures.items in let less = length-remove a.row.items c.args.at within in omega (arith, long, less, within) in (
      rw (c.remove-slot.ensures.room) (record {
        once = λ s.
            let sum = c.self.invariant.0.once s in
            let less = ap (listed s) c.remove-slot.ensures.items in
            let gone = listed_less s c.args.at slot a.row.items c.remove-slot.ensures.item in
            let more = ap (listed s) c.push_reserved.ensures.items ∙ listed-append s a.free.items (slot ∷ []) in
            omega (arith, sum, less, gone, more);
        count = let long = ap length c.push_reserved.ensures.items ∙ length-append a.free.items (slot ∷ []) in omega (arith, c.self.invariant.0.count, count, long);
      }),
      c.push_reserved.ensures.capacity ∙ c.self.invariant.1 ∙ sym c.remove-slot.ensures.room,
    )
