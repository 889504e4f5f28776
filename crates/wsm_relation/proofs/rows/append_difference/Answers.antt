use Rattle.std.proofs.Common.{◌≡◌, ◌+◌, ◌++◌, [], ◌∷◌, sym, ap, ◌∙◌, append_assoc, append-nil, vec_len, arith}
use Rattle.std.specs.declared.cmp.Ordering.TheVariants.{Less, Equal, Greater}
use Rattle.wsm_semantics.specs.Relation.{row_cmp}
use Rattle.wsm_relation.proofs.Walk.{left, left-end, left-alone, left-before, left-tied, left-behind}
use Rattle.wsm_relation.proofs.rows.append_difference.Goals as goal
use Rattle.wsm_relation.proofs.rows.append_difference.Goals.{then-j-others, else-j-others}

pub loop-i-preserved-in-Less : goal.loop-i-preserved-in-Less
loop-i-preserved-in-Less c =
    let xs = c.args.rows.now in
    let ys = c.args.others.now in
    let i = c.loop-i.i in
    let j = c.loop-i.j in
    let box = c.index-rows-i-in-Less.result in
    let pushed : c.push_reserved.new.self.items ≡ c.loop-i.out.items ++ c.deref-in-Less.result.now ∷ [] = c.push_reserved.ensures.items in
    let longer : vec_len c.push_reserved.new.self ≡ vec_len c.loop-i.out + 1 = c.push_reserved.ensures.len in
    let value : c.deref-in-Less.result.now ≡ box.value = c.deref-in-Less.ensures in
    let step : left xs ys i j i j ≡ box.value ∷ left xs ys i j (i + 1) j = elim c.if-j-others.branch [
      | then-j-others w ↦
          let less : row_cmp w.index-rows-i.result.value w.index-others-j.result.value ≡ Less = cc in
          left-before xs ys i j w.index-rows-i.result w.index-others-j.result c.loop-i-test.true w.if-j-others.true w.index-rows-i.is w.index-others-j.is c.requires.others less box c.index-rows-i-in-Less.is
      | else-j-others w ↦ left-alone xs ys i j box c.loop-i-test.true c.index-rows-i-in-Less.is w.if-j-others.false
    ] in
    record {
      items =
          ap (λ l. l ++ left xs ys i j (i + 1) j) pushed
          ∙ append_assoc c.loop-i.out.items (c.deref-in-Less.result.now ∷ []) (left xs ys i j (i + 1) j)
          ∙ (λ k. c.loop-i.out.items ++ (value k ∷ left xs ys i j (i + 1) j))
          ∙ ap (λ l. c.loop-i.out.items ++ l) (sym step)
          ∙ c.loop-i.invariant.items;
      row = omega arith;
      other = c.loop-i.invariant.other;
      room = omega (arith, c.loop-i.invariant.room, c.push_reserved.ensures.capacity);
      capacity = c.push_reserved.ensures.capacity ∙ c.loop-i.invariant.capacity;
    }

pub loop-i-preserved-in-Equal : goal.loop-i-preserved-in-Equal
loop-i-preserved-in-Equal c = elim c.if-j-others.branch [
  | then-j-others w ↦
      let tie : row_cmp w.index-rows-i.result.value w.index-others-j.result.value ≡ Equal = cc in
      record {
        items =
            ap (λ l. c.loop-i.out.items ++ l) (sym (left-tied c.args.rows.now c.args.others.now c.loop-i.i c.loop-i.j w.index-rows-i.result w.index-others-j.result c.loop-i-test.true w.if-j-others.true w.index-rows-i.is w.index-others-j.is tie))
            ∙ c.loop-i.invariant.items;
        row = omega arith;
        other = omega arith;
        room = omega (arith, c.loop-i.invariant.room);
        capacity = c.loop-i.invariant.capacity;
      }
  | else-j-others w ↦ absurd (let bad : Equal ≡ Less = sym c.in-Equal.is ∙ w.order-is in cc)
]

pub loop-i-preserved : goal.loop-i-preserved
loop-i-preserved c = elim c.if-j-others.branch [
  | then-j-others w ↦
      let more : row_cmp w.index-rows-i.result.value w.index-others-j.result.value ≡ Greater = cc in
      record {
        items =
            ap (λ l. c.loop-i.out.items ++ l) (sym (left-behind c.args.rows.now c.args.others.now c.loop-i.i c.loop-i.j w.index-rows-i.result w.index-others-j.result c.loop-i-test.true w.if-j-others.true w.index-rows-i.is w.index-others-j.is c.requires.rows more))
            ∙ c.loop-i.invariant.items;
        row = c.loop-i.invariant.row;
        other = omega arith;
        room = c.loop-i.invariant.room;
        capacity = c.loop-i.invariant.capacity;
      }
  | else-j-others w ↦ absurd (let bad : Greater ≡ Less = sym c.in-Greater.is ∙ w.order-is in cc)
]

pub returns : goal.returns
returns c = record {
  items =
      sym (append-nil c.loop-i.out.items)
      ∙ ap (λ l. c.loop-i.out.items ++ l) (sym (left-end c.args.rows.now c.args.others.now c.loop-i.i c.loop-i.j c.loop-i-test.false))
      ∙ c.loop-i.invariant.items;
  capacity = c.loop-i.invariant.capacity;
}
