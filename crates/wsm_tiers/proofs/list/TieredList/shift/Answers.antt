use Rattle.std.proofs.Common.{sym, ◌∙◌, ap, arith}
use Rattle.std.proofs.lemmas.List.Edits.{insert-append_left, length-remove, remove-append_left}
use Rattle.std.specs.Prelude.{insert}
use Rattle.std.specs.List.{remove}
use Rattle.wsm_tiers.proofs.Near.{near_holds}
use Rattle.wsm_tiers.proofs.list.TieredList.shift.Goals as goal

pub returns-then-to-lt-TIER-clause-items : goal.returns-then-to-lt-TIER-clause-items
returns-then-to-lt-TIER-clause-items g c =
    let a = c.self.inside in
    let s = c.shift_within.result in
    let begins = near_holds a.room a.len a.near.items _ a.far c.self.invariant c.args.from c.if-from-lt-TIER.true (rw (← c.self.view_is) at c.requires.from) in
    let ends = near_holds a.room a.len a.near.items _ a.far c.self.invariant c.args.to c.if-to-lt-TIER.true (rw (← c.self.view_is) at c.requires.to) in
    rw (← c.self.view_is, c.shift_within.ensures.items) (sym (
    ap (λ l. insert l c.args.to s) (remove-append_left a.near.items a.far.items c.args.from begins)
    ∙ insert-append_left (remove a.near.items c.args.from) a.far.items c.args.to s (omega (arith, ends, length-remove a.near.items c.args.from begins))))
