use Rattle.std.proofs.Common.{Some, arith, ap, sym}
use Rattle.wsm_slots.proofs.Laid.{entry_read, head_held, slot_held}
use Rattle.wsm_slots.proofs.slots.Slots.held_place.Goals as goal

pub index-requires : goal.index-requires
index-requires c =
    let a = c.self.inside in
    omega (arith, slot_held a.widths.accumulators a.widths.columns a.heads.items.items a.folds.items.items a.words.items.items a.windows.items.items c.args.slot (rw (← c.self.view_is) at c.requires), a.heads.items.ok.0)

pub returns : goal.returns
returns c =
    let a = c.self.inside in
    let w = a.widths.accumulators in let n = a.widths.columns in
    let some = rw (← c.self.view_is) at c.requires in
    let h = c.index.result.now in
    let there = head_held w n a.heads.items.items a.folds.items.items a.words.items.items a.windows.items.items c.args.slot h some c.index.ensures in
    let at = entry_read w n a.heads.items.items a.folds.items.items a.words.items.items a.windows.items.items c.args.slot h (slot_held w n a.heads.items.items a.folds.items.items a.words.items.items a.windows.items.items c.args.slot some) c.index.ensures in
    rw (← c.self.view_is) (rw (at, there) (ap Some (sym c.place.ensures)))
