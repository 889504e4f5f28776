use Rattle.std.proofs.Common.{List, length, ◌+◌, ◌≤◌, ◌++◌, vec_len, vec_capacity, sym, ap, subst, ◌∙◌}
use Rattle.wsm_record.specs.declared.cell.Cell.{Cell}
use Rattle.wsm_relation.specs.Delta.{ArePlaces, Delta, changed_rows}
use Rattle.wsm_relation.specs.Kept.{numbers_in}
use Rattle.wsm_relation.proofs.Numbers.{Entry}
use Rattle.wsm_relation.proofs.SettledLists.{settled-steps}
use Rattle.wsm_relation.proofs.changes.Changes.append.Goals as goal

pub append_changes-requires-clause-places : goal.append_changes-requires-clause-places
append_changes-requires-clause-places c = subst (λ (l : List (List Cell)). ArePlaces (length l) c.standing.result.now) (sym c.rows.ensures) c.standing.ensures.places

pub append_changes-requires-clause-room : goal.append_changes-requires-clause-room
append_changes-requires-clause-room c =
    let numbers = settled-steps c.settle.new.self c.rows.result.now c.standing.result.now (numbers_in c.self.inside.lists) c.settle.ensures.none c.rows.ensures c.standing.ensures.steps c.settle.ensures.numbers.numbers ∙ ap (λ (d : Delta). d.numbers) c.self.view_is in
    subst (λ (es : List Entry). vec_len c.args.out.now + length (changed_rows c.args.side es) ≤ vec_capacity c.args.out.now) (sym numbers) c.requires

pub returns-clause-rows : goal.returns-clause-rows
returns-clause-rows c =
    let numbers = settled-steps c.settle.new.self c.rows.result.now c.standing.result.now (numbers_in c.self.inside.lists) c.settle.ensures.none c.rows.ensures c.standing.ensures.steps c.settle.ensures.numbers.numbers ∙ ap (λ (d : Delta). d.numbers) c.self.view_is in record {
      items = c.append_changes.ensures.items ∙ ap (λ (es : List Entry). c.args.out.now.items ++ changed_rows c.args.side es) numbers;
      capacity = c.append_changes.ensures.capacity;
    }
