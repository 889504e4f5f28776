use Rattle.std.proofs.Common.{◌≡◌, Bool, false, cond, ap, sym, ◌∙◌}
use Rattle.wsm_part_engines.specs.Ordered.{in_row_order, are_of_one}
use Rattle.wsm_part_engines.proofs.RowPlaces.{sorted_is}
use Rattle.wsm_part_engines.proofs.ordering.arrange.Goals as goal

pub returns-then-not-are_of_one : goal.returns-then-not-are_of_one
returns-then-not-are_of_one c =
    let several : are_of_one c.args.order.now.items ≡ false = ap are_of_one (sym c.deref.ensures.value) ∙ sym c.are_of_one.ensures ∙ c.if-not-are_of_one.true in
    sorted_is c.args.order.now.items c.sort_unstable.new.self.items c.sort_unstable.ensures.permutation c.sort_unstable.ensures.sorted
    ∙ sym (ap (λ (b : Bool). cond b c.args.order.now.items (in_row_order c.args.order.now.items)) several)
