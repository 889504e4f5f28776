use Rattle.std.proofs.Common.{sym, arith}
use Rattle.std.proofs.lemmas.List.{set-append_left, set-append_right}
use Rattle.wsm_tiers.proofs.Near.{near_full, near_holds}
use Rattle.wsm_tiers.proofs.list.TieredList.set.Goals as goal

pub returns-then-at-lt-TIER-clause-items : goal.returns-then-at-lt-TIER-clause-items
returns-then-at-lt-TIER-clause-items g c =
    let a = c.self.inside in
    rw (← c.self.view_is) (sym (set-append_left a.near.items a.far.items c.args.at c.args.item (near_holds a.room a.len a.near.items _ a.far c.self.invariant c.args.at c.if-at-lt-TIER.true (rw (← c.self.view_is) at c.requires))))

pub returns-else-at-lt-TIER-clause-items : goal.returns-else-at-lt-TIER-clause-items
returns-else-at-lt-TIER-clause-items g c =
    let a = c.self.inside in
    let within = rw (← c.self.view_is) at c.requires in
    let full = near_full a.room a.len a.near.items _ a.far c.self.invariant (omega (arith, within, c.if-at-lt-TIER.false)) in
    rw (← c.self.view_is, c.set.ensures.items) (sym (set-append_right a.near.items a.far.items 2048 c.args.at c.args.item full c.if-at-lt-TIER.false))
