use Rattle.std.proofs.Common.{rules, vec_capacity, refl, sym, ap, subst, ◌∙◌, arith}
use Rattle.std.specs.Global.{Vec}
use Rattle.wsm_relation.specs.declared.steps.Step.{Step}
use Rattle.wsm_relation.specs.Delta.{AreWorded, added_in}
use Rattle.wsm_relation.specs.Memory.{HasSteps}
use Rattle.wsm_relation.proofs.SettledLists.{added_up, aside-can, aside-few, can_sum, merged-few, numbers_as, took_over}
use Rattle.wsm_relation.proofs.lists.Lists.settle.Goals as goal

pub sort_steps-requires : goal.sort_steps-requires
sort_steps-requires c = subst (λ l. AreWorded l c.self.inside.told.items) (sym c.as_slice-rows.ensures.value) c.self.invariant.kept.words

pub sum_up-requires-clause-can : goal.sum_up-requires-clause-can
sum_up-requires-clause-can c = can_sum c.self.inside c.as_slice-rows.result.now c.sort_steps.new.told c.as_slice-rows.ensures.value c.self.invariant c.sort_steps.ensures.permutation c.sort_steps.ensures.order

pub sum_up-requires-clause-room : goal.sum_up-requires-clause-room
sum_up-requires-clause-room c = let i = c.self.invariant in omega (arith, c.sort_steps.ensures.len, i.few_told, i.within, i.spare_room)

pub merge-requires-clause-can : goal.merge-requires-clause-can
merge-requires-clause-can c = aside-can c.self.inside c.as_slice-rows.result.now c.sort_steps.new.told c.as_slice-rows.ensures.value c.self.invariant c.sort_steps.ensures.permutation c.sum_up.new.told c.sum_up.new.spare c.sort_steps.ensures.capacity c.sum_up.ensures.aside c.sum_up.ensures.none c.as_slice.result.now c.as_slice.ensures.value

pub merge-requires-clause-few : goal.merge-requires-clause-few
merge-requires-clause-few c = merged-few c.self.inside c.as_slice-rows.result.now c.sort_steps.new.told c.as_slice-rows.ensures.value c.self.invariant c.sort_steps.ensures.permutation c.sum_up.new.told c.sum_up.new.spare c.sort_steps.ensures.capacity c.sum_up.ensures.aside c.sum_up.ensures.none c.as_slice.result.now c.as_slice.ensures.value

pub add_few-requires-clause-can : goal.add_few-requires-clause-can
add_few-requires-clause-can c = aside-can c.self.inside c.as_slice-rows.result.now c.sort_steps.new.told c.as_slice-rows.ensures.value c.self.invariant c.sort_steps.ensures.permutation c.sum_up.new.told c.sum_up.new.spare c.sort_steps.ensures.capacity c.sum_up.ensures.aside c.sum_up.ensures.none c.self.inside.standing.items refl

pub take_over-requires-clause-room : goal.take_over-requires-clause-room
take_over-requires-clause-room c = aside-few c.self.inside c.as_slice-rows.result.now c.sort_steps.new.told c.as_slice-rows.ensures.value c.self.invariant c.sort_steps.ensures.permutation c.sum_up.new.told c.sum_up.new.spare c.sort_steps.ensures.capacity c.sum_up.ensures.aside c.sum_up.ensures.none (search rules)

pub invariant_of-self : goal.invariant_of-self
invariant_of-self c = (took_over c.self.inside c.as_slice-rows.result.now c.sort_steps.new.told c.as_slice-rows.ensures.value c.self.invariant c.sort_steps.ensures.permutation c.sum_up.new.told c.sum_up.new.spare c.sort_steps.ensures.capacity c.sum_up.ensures.aside c.sum_up.ensures.none (search rules) c.take_over.new.standing c.take_over.new.spare c.take_over.ensures.stands c.take_over.ensures.none).reserved

pub returns-then-is_empty-2-clause-numbers : goal.returns-then-is_empty-2-clause-numbers
returns-then-is_empty-2-clause-numbers c = numbers_as c.self.inside c.sum_up.new.told c.take_over.new.standing c.take_over.new.spare c.args.self.now c.self.view_is (took_over c.self.inside c.as_slice-rows.result.now c.sort_steps.new.told c.as_slice-rows.ensures.value c.self.invariant c.sort_steps.ensures.permutation c.sum_up.new.told c.sum_up.new.spare c.sort_steps.ensures.capacity c.sum_up.ensures.aside c.sum_up.ensures.none (search rules) c.take_over.new.standing c.take_over.new.spare c.take_over.ensures.stands c.take_over.ensures.none)

pub invariant_of-self-then-len-saturating_sub : goal.invariant_of-self-then-len-saturating_sub
invariant_of-self-then-len-saturating_sub c = (added_up c.self.inside c.as_slice-rows.result.now c.sort_steps.new.told c.as_slice-rows.ensures.value c.self.invariant c.sort_steps.ensures.permutation c.sum_up.new.told c.sum_up.new.spare c.sort_steps.ensures.capacity c.sum_up.ensures.aside c.sum_up.ensures.none c.self.inside.standing.items refl c.self.inside.standing c.sum_up.new.told c.add_few.new.standing c.add_few.new.spare c.self.invariant.standing_room c.add_few.ensures.stands c.add_few.ensures.none c.sum_up.ensures.none.items (c.sum_up.ensures.none.capacity ∙ c.sort_steps.ensures.capacity ∙ c.self.invariant.told_room)).reserved

pub returns-then-len-saturating_sub-clause-numbers : goal.returns-then-len-saturating_sub-clause-numbers
returns-then-len-saturating_sub-clause-numbers c = numbers_as c.self.inside c.sum_up.new.told c.add_few.new.standing c.add_few.new.spare c.args.self.now c.self.view_is (added_up c.self.inside c.as_slice-rows.result.now c.sort_steps.new.told c.as_slice-rows.ensures.value c.self.invariant c.sort_steps.ensures.permutation c.sum_up.new.told c.sum_up.new.spare c.sort_steps.ensures.capacity c.sum_up.ensures.aside c.sum_up.ensures.none c.self.inside.standing.items refl c.self.inside.standing c.sum_up.new.told c.add_few.new.standing c.add_few.new.spare c.self.invariant.standing_room c.add_few.ensures.stands c.add_few.ensures.none c.sum_up.ensures.none.items (c.sum_up.ensures.none.capacity ∙ c.sort_steps.ensures.capacity ∙ c.self.invariant.told_room))

pub invariant_of-self-2 : goal.invariant_of-self-2
invariant_of-self-2 c = (added_up c.self.inside c.as_slice-rows.result.now c.sort_steps.new.told c.as_slice-rows.ensures.value c.self.invariant c.sort_steps.ensures.permutation c.sum_up.new.told c.sum_up.new.spare c.sort_steps.ensures.capacity c.sum_up.ensures.aside c.sum_up.ensures.none c.as_slice.result.now c.as_slice.ensures.value c.sum_up.new.told c.clear.new.self c.swap.new.y c.merge.new.spare
    (c.sum_up.ensures.none.capacity ∙ c.sort_steps.ensures.capacity ∙ c.self.invariant.told_room)
    (subst (λ (v : Vec Step). HasSteps c.as_slice-rows.result.now c.sum_up.new.told v (added_in c.as_slice-rows.result.now c.sum_up.new.spare.items c.as_slice.result.now)) (sym c.swap.ensures.y_after) c.merge.ensures.merged)
    c.merge.ensures.none c.clear.ensures.items (c.clear.ensures.capacity ∙ ap vec_capacity c.swap.ensures.x_after ∙ c.self.invariant.standing_room)).reserved

pub returns-clause-numbers : goal.returns-clause-numbers
returns-clause-numbers c = numbers_as c.self.inside c.clear.new.self c.swap.new.y c.merge.new.spare c.args.self.now c.self.view_is (added_up c.self.inside c.as_slice-rows.result.now c.sort_steps.new.told c.as_slice-rows.ensures.value c.self.invariant c.sort_steps.ensures.permutation c.sum_up.new.told c.sum_up.new.spare c.sort_steps.ensures.capacity c.sum_up.ensures.aside c.sum_up.ensures.none c.as_slice.result.now c.as_slice.ensures.value c.sum_up.new.told c.clear.new.self c.swap.new.y c.merge.new.spare
    (c.sum_up.ensures.none.capacity ∙ c.sort_steps.ensures.capacity ∙ c.self.invariant.told_room)
    (subst (λ (v : Vec Step). HasSteps c.as_slice-rows.result.now c.sum_up.new.told v (added_in c.as_slice-rows.result.now c.sum_up.new.spare.items c.as_slice.result.now)) (sym c.swap.ensures.y_after) c.merge.ensures.merged)
    c.merge.ensures.none c.clear.ensures.items (c.clear.ensures.capacity ∙ ap vec_capacity c.swap.ensures.x_after ∙ c.self.invariant.standing_room))
