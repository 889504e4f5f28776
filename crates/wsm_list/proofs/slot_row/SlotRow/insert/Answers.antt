use Rattle.std.proofs.Common.{◌≡◌, ◌≤◌, ◌++◌, ◌∷◌, [], ap, sym, ◌∙◌, length}
use Rattle.std.specs.Prelude.{option_to_list}
use Rattle.wsm_list.proofs.SlotRows.{below, fresh, taken_apart}
use Rattle.wsm_list.proofs.slot_row.SlotRow.insert.Goals as goal

pub invariant_of-self : goal.invariant_of-self
invariant_of-self c =
    let a = c.self.inside in
    let left = c.pop.new.self.items in
    let slot = c.unwrap-slot.result in
    let all : a.free.items ≡ left ++ slot ∷ [] = c.pop.ensures.items ∙ ap (λ o. left ++ option_to_list o) c.unwrap-slot.ensures in
    let fits : c.args.at ≤ length a.row.items = rw (← c.self.view_is) at c.requires.at in
    (rw (c.insert.ensures.room, c.insert.ensures.items) (taken_apart _ _ _ c.self.invariant.0 left slot all c.args.at fits), c.pop.ensures.capacity ∙ c.self.invariant.1 ∙ sym c.insert.ensures.room)

pub returns-clause-fresh : goal.returns-clause-fresh
returns-clause-fresh c =
    let left = c.pop.new.self.items in
    let slot = c.unwrap-slot.result in
    let all : c.self.inside.free.items ≡ left ++ slot ∷ [] = c.pop.ensures.items ∙ ap (λ o. left ++ option_to_list o) c.unwrap-slot.ensures in
    rw (← c.self.view_is) (fresh _ _ _ c.self.invariant.0 left slot all)

pub returns-clause-within : goal.returns-clause-within
returns-clause-within c =
    let left = c.pop.new.self.items in
    let slot = c.unwrap-slot.result in
    let all : c.self.inside.free.items ≡ left ++ slot ∷ [] = c.pop.ensures.items ∙ ap (λ o. left ++ option_to_list o) c.unwrap-slot.ensures in
    rw (← c.self.view_is) (below _ _ _ c.self.invariant.0 left slot all)
