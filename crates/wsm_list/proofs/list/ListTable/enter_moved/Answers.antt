use Rattle.std.proofs.Common.{◌≡◌, subst, sym, ◌∙◌}
use Rattle.wsm_slots.proofs.Order.{Decides-eq_place}
use Rattle.wsm_list.specs.Recorded.{CanMove, HasMoved}
use Rattle.wsm_list.proofs.list.ListTable.enter_moved.Goals as goal

pub record_at-requires : goal.record_at-requires
record_at-requires c =
    let same : c.args.from ≡ c.args.to = (Decides-eq_place c.args.from c.args.to).0 (sym c.eq.ensures ∙ c.if-eq.true) in
    subst (λ p. CanMove c.args.kinds.now c.args.values.now p c.args.to c.args.self.now) same c.requires

pub returns-then-eq : goal.returns-then-eq
returns-then-eq c =
    let same : c.args.from ≡ c.args.to = (Decides-eq_place c.args.from c.args.to).0 (sym c.eq.ensures ∙ c.if-eq.true) in
    subst (λ p. HasMoved c.args.kinds.now c.args.values.now p c.args.to c.args.self.now c.record_at.new.self) (sym same) c.record_at.ensures
