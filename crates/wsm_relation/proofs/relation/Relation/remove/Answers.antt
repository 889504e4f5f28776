use Rattle.std.proofs.Common.{◌≡◌, ◌+◌, ◌<◌, ap, ◌∙◌, vec_len, arith}
use Rattle.std.specs.Prelude.{remove}
use Rattle.wsm_semantics.specs.Relation.{without_one}
use Rattle.wsm_relation.specs.Rows.{rows_in, passed, count_of}
use Rattle.wsm_semantics.proofs.RowBags.{without_one-in_order}
use Rattle.wsm_relation.proofs.Places.{remove-passed, passed-there}
use Rattle.wsm_relation.proofs.Boxes.{length-rows_in, remove-rows_in, bags_alike}
use Rattle.wsm_relation.proofs.relation.Relation.remove.Goals as goal

pub remove-place-requires : goal.remove-place-requires
remove-place-requires c =
    let there : 0 < count_of c.args.row.now (rows_in c.self.inside.rows.items) = rw (← c.self.view_is) at c.requires in
    let at : c.place_of-at.result ≡ passed c.args.row.now (rows_in c.self.inside.rows.items) = c.place_of-at.ensures.place ∙ ap (λ bs. passed c.args.row.now (rows_in bs)) c.deref.ensures.value in
    omega (arith, passed-there c.args.row.now (rows_in c.self.inside.rows.items) c.self.invariant.0 there, length-rows_in c.self.inside.rows.items, c.self.inside.rows.ok.0)

rows_after : (c : goal.After-unwrap) → rows_in c.remove-place.new.self.items ≡ without_one c.args.row.now (rows_in c.self.inside.rows.items)
rows_after c =
    let there : 0 < count_of c.args.row.now (rows_in c.self.inside.rows.items) = rw (← c.self.view_is) at c.requires in
    ap rows_in c.remove-place.ensures.items
    ∙ remove-rows_in c.self.inside.rows.items c.place_of-at.result
    ∙ ap (λ n. remove (rows_in c.self.inside.rows.items) n) (c.place_of-at.ensures.place ∙ ap (λ bs. passed c.args.row.now (rows_in bs)) c.deref.ensures.value)
    ∙ remove-passed c.args.row.now (rows_in c.self.inside.rows.items) c.self.invariant.0 there

places_after : (c : goal.After-unwrap) → vec_len c.remove-place.new.self + vec_len c.push.new.self ≡ vec_len c.self.inside.rows + vec_len c.self.inside.free
places_after c =
    let longer : vec_len c.push.new.self ≡ vec_len c.self.inside.free + 1 = rw c.unwrap.ensures at c.push.ensures.len in
    omega (arith, c.remove-place.ensures.len)

pub invariant_of-self : goal.invariant_of-self
invariant_of-self c =
    let places = places_after c in (
      rw (rows_after c) (without_one-in_order c.args.row.now (rows_in c.self.inside.rows.items) c.self.invariant.0),
      omega (arith, c.self.invariant.1, c.remove-place.ensures.capacity),
      omega (arith, c.self.invariant.2, c.push.ensures.capacity),
    )

pub returns : goal.returns
returns c = rw (← c.self.view_is) (bags_alike _ _ _ _ c.self.inside.columns (rows_after c) (places_after c))
