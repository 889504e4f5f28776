use Rattle.std.proofs.Common.{◌≡◌, ◌<◌, ◌++◌, ◌∷◌, [], ap, get_or, length, sym, ◌∙◌, arith}
use Rattle.std.proofs.lemmas.List.{append_assoc, take_more}
use Rattle.std.proofs.lemmas.Option.{get_or_from_slice_get}
use Rattle.wsm_list.proofs.slot_row.add_first.Goals as goal

pub loop-i-preserved : goal.loop-i-preserved
loop-i-preserved c =
    let others = c.args.others.now.items in
    let i = c.loop-i.i in
    let slot = c.get.result in
    let inside : i < length others = omega (arith, c.loop-i-test.true, c.requires.within) in
    let read : get_or others i slot ≡ slot = get_or_from_slice_get others i slot slot c.get.ensures in
    record {
      items =
          c.push_reserved.ensures.items ∙ ap (λ l. l ++ slot ∷ []) c.loop-i.invariant.items ∙ append_assoc c.args.numbers.now.items _ (slot ∷ [])
          ∙ ap (λ l. c.args.numbers.now.items ++ l) (rw read at (sym (take_more others i slot inside)));
      capacity = c.push_reserved.ensures.capacity ∙ c.loop-i.invariant.capacity;
    }
