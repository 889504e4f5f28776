use Rattle.std.proofs.Common.{◌≡◌, ◌+◌, ◌-◌, drop, length, length-drop, ap, ◌∙◌, arith}
use Rattle.std.proofs.lemmas.List.{drop-drop}
use Rattle.wsm_tiers.proofs.list.TieredList.drop_first.Goals as goal

pub loop-left-preserved : goal.loop-left-preserved
loop-left-preserved g c =
    let items = c.loop-left.self.items in
    let left = c.loop-left.left in
    let is : 2048 + (left - 2048) ≡ left = omega (arith, c.loop-left-test.true) in
    record {
      items = ap (drop (left - 2048)) c.drop_tier.ensures.items ∙ drop-drop (left - 2048) 2048 items ∙ rw is c.loop-left.invariant.items;
      within = omega (arith, ap length c.drop_tier.ensures.items, length-drop 2048 items, c.loop-left.invariant.within);
      room = c.drop_tier.ensures.room ∙ c.loop-left.invariant.room;
    }
