use Rattle.std.proofs.Common.{◌≡◌, ◌+◌, ap, ◌∙◌, vec_len, arith}
use Rattle.std.specs.Prelude.{insert}
use Rattle.wsm_semantics.specs.Relation.{with_row}
use Rattle.wsm_relation.specs.Rows.{rows_in, passed}
use Rattle.wsm_semantics.proofs.RowBags.{with_row-in_order}
use Rattle.wsm_relation.proofs.Places.{insert-passed}
use Rattle.wsm_relation.proofs.Boxes.{insert-rows_in, bags_alike}
use Rattle.wsm_relation.proofs.relation.Relation.add.Goals as goal

rows_after : (c : goal.After-unwrap) → rows_in c.insert.new.self.items ≡ with_row c.args.row (rows_in c.self.inside.rows.items)
rows_after c =
    ap rows_in (rw c.unwrap.ensures at c.insert.ensures.items)
    ∙ insert-rows_in c.self.inside.rows.items c.place_of-at.result _
    ∙ ap (λ n. insert (rows_in c.self.inside.rows.items) n c.args.row) (c.place_of-at.ensures.place ∙ ap (λ bs. passed c.args.row (rows_in bs)) c.deref.ensures.value)
    ∙ insert-passed c.args.row (rows_in c.self.inside.rows.items)

places_after : (c : goal.After-unwrap) → vec_len c.insert.new.self + vec_len c.pop.new.self ≡ vec_len c.self.inside.rows + vec_len c.self.inside.free
places_after c =
    let longer : vec_len c.insert.new.self ≡ vec_len c.self.inside.rows + 1 = rw c.unwrap.ensures at c.insert.ensures.len in
    let shorter : vec_len c.pop.new.self + 1 ≡ vec_len c.self.inside.free = rw c.unwrap-place.ensures at c.pop.ensures.cases in
    omega arith

pub invariant_of-self : goal.invariant_of-self
invariant_of-self c =
    let places = places_after c in (
      rw (rows_after c) (with_row-in_order c.args.row (rows_in c.self.inside.rows.items) c.self.invariant.0),
      omega (arith, c.self.invariant.1, c.insert.ensures.capacity),
      omega (arith, c.self.invariant.2, c.pop.ensures.capacity),
    )

pub returns : goal.returns
returns c = rw (← c.self.view_is) (bags_alike _ _ _ _ c.self.inside.columns (rows_after c) (places_after c))
