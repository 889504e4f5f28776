use Rattle.std.proofs.Common.{◌≡◌, ◌+◌, ◌++◌, [], ◌∷◌, sym, ap, ◌∙◌, append_assoc, vec_len, arith}
use Rattle.wsm_relation.proofs.Boxes.{take-next}
use Rattle.wsm_relation.proofs.rows.append_all.Goals as goal

pub loop-i-preserved : goal.loop-i-preserved
loop-i-preserved c =
    let pushed : c.push_reserved.new.self.items ≡ c.loop-i.out.items ++ c.deref.result.now ∷ [] = c.push_reserved.ensures.items in
    let longer : vec_len c.push_reserved.new.self ≡ vec_len c.loop-i.out + 1 = c.push_reserved.ensures.len in
    let value : c.deref.result.now ≡ c.index-rows-i.result.value = c.deref.ensures in
    record {
      items =
          pushed
          ∙ (λ k. c.loop-i.invariant.items k ++ value k ∷ [])
          ∙ append_assoc c.args.out.now.items _ (c.index-rows-i.result.value ∷ [])
          ∙ ap (λ l. c.args.out.now.items ++ l) (sym (take-next c.args.rows.now c.loop-i.i c.index-rows-i.result c.loop-i-test.true c.index-rows-i.is));
      within = omega arith;
      len = omega (arith, c.loop-i.invariant.len);
      capacity = c.push_reserved.ensures.capacity ∙ c.loop-i.invariant.capacity;
    }
