use Rattle.std.proofs.Common.{◌≡◌, ◌-◌, ◌≤◌, length, take, vec_len, vec_capacity}
use Rattle.wsm_relation.specs.Delta.{ArePlaces, steps_in}
use Rattle.wsm_relation.proofs.lists.Lists.gather.Given as goal

-- the first of those that stand have their rows among the others
abbrev pub invariant-loop-i : goal.invariant-loop-i
invariant-loop-i l = record {
  numbers : steps_in l.self-inside.others.items l.self-inside.told.items ≡ take l.i (steps_in l.initial.self-inside.rows.items l.initial.self-inside.standing.items);
  places : ArePlaces (length l.self-inside.others.items) l.self-inside.told.items;
  rows : vec_len l.self-inside.others ≡ l.i;
  len : vec_len l.self-inside.told ≡ l.i;
  within : l.i ≤ vec_len l.initial.self-inside.standing;
  others : vec_capacity l.self-inside.others ≡ vec_capacity l.initial.self-inside.others;
  told : vec_capacity l.self-inside.told ≡ vec_capacity l.initial.self-inside.told;
  same : l.self-inside ≡ record l.initial.self-inside { others = l.self-inside.others; told = l.self-inside.told };
}

abbrev pub decreases-loop-i : goal.decreases-loop-i
decreases-loop-i l = vec_len l.self-inside.standing - l.i
