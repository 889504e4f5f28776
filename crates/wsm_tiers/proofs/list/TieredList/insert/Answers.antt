use Rattle.std.proofs.Common.{sym, arith}
use Rattle.std.proofs.lemmas.List.Edits.{insert-append_right}
use Rattle.wsm_tiers.proofs.Near.{near_full}
use Rattle.wsm_tiers.proofs.list.TieredList.insert.Goals as goal

pub returns-else-at-lt-TIER-clause-items : goal.returns-else-at-lt-TIER-clause-items
returns-else-at-lt-TIER-clause-items g c =
    let a = c.self.inside in
    let within = rw (← c.self.view_is) at c.requires.at in
    let full = near_full a.room a.len a.near.items _ a.far c.self.invariant (omega (arith, within, c.if-at-lt-TIER.false)) in
    rw (← c.self.view_is, c.insert-else-at-lt-TIER.ensures.items) (sym (insert-append_right a.near.items a.far.items 2048 c.args.at c.args.item full c.if-at-lt-TIER.false))
