use Rattle.std.proofs.Common.{◌≡◌, ◌∙◌, subst, sym}
use Rattle.csv.specs.Records.{fields_of}
use Rattle.wsm_deal.specs.Deal.{goal_of}
use Rattle.wsm_deal.specs.Parts.{Deals}
use Rattle.wsm_deal.specs.declared.shares.Goal.{Goal}
use Rattle.wsm_deal.specs.declared.shares.Goal.TheVariants.{One, All}
use Rattle.wsm_deal.proofs.dealing.deal_row.Goals as goal

pub returns-in-One : goal.returns-in-One
returns-in-One g c =
    let row = fields_of c.args.row.now in
    let goes : goal_of c.args.shares.now row ≡ One c.in-One.part = sym c.goal_of.ensures ∙ c.in-One.is in
    subst (λ (w : Goal). Deals g.D.Device.taken g.D.Device.has_failed w row c.args.parts.now c.deal_to_one.new.parts c.deal_to_one.result) (sym goes) c.deal_to_one.ensures

pub returns-in-All : goal.returns-in-All
returns-in-All g c =
    let row = fields_of c.args.row.now in
    let goes : goal_of c.args.shares.now row ≡ All = sym c.goal_of.ensures ∙ c.in-All.is in
    subst (λ (w : Goal). Deals g.D.Device.taken g.D.Device.has_failed w row c.args.parts.now c.deal_to_all.new.parts c.deal_to_all.result) (sym goes) c.deal_to_all.ensures
