use Rattle.std.proofs.Common.{arith}
use Rattle.wsm_slots.proofs.Laid.{length-entries}
use Rattle.wsm_slots.proofs.slots.Slots.len.Goals as goal

pub returns : goal.returns
returns c =
    let a = c.self.inside in
    rw (← c.self.view_is) (omega (arith, c.len.ensures, a.heads.items.ok.0, length-entries a.widths.accumulators a.widths.columns a.heads.items.items a.folds.items.items a.words.items.items a.windows.items.items))
