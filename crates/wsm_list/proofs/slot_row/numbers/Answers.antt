use Rattle.std.proofs.Common.{◌∷◌, [], ap, ◌∙◌, arith, length, length-append}
use Rattle.wsm_list.specs.Stored.{listed}
use Rattle.wsm_list.proofs.SlotRows.{listed-append, next_number}
use Rattle.wsm_list.proofs.slot_row.numbers.Goals as goal

pub loop-number-preserved : goal.loop-number-preserved
loop-number-preserved c =
    let n = c.loop-number.number in
    record {
      once = λ s.
          ap (listed s) c.push_reserved.ensures.items ∙ listed-append s c.loop-number.numbers.items (n ∷ [])
          ∙ (let was = c.loop-number.invariant.once s in let next = next_number s n in omega (arith, was, next));
      count = let long = ap length c.push_reserved.ensures.items ∙ length-append c.loop-number.numbers.items (n ∷ []) in omega (arith, long, c.loop-number.invariant.count);
      room = c.push_reserved.ensures.capacity ∙ c.loop-number.invariant.room;
    }
