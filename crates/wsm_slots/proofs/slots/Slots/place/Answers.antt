use Rattle.std.proofs.Common.{◌<◌, Some, length, arith, refl, ap, sym, ◌∙◌}
use Rattle.std.specs.Prelude.{slice_get}
use Rattle.wsm_slots.specs.Layout.{entry_by, part_at}
use Rattle.wsm_slots.specs.RowWords.{cells_by}
use Rattle.wsm_slots.proofs.Laid.{length-entries, entry_at}
use Rattle.wsm_slots.proofs.slots.Slots.place.Goals as goal

pub index-head-requires : goal.index-head-requires
index-head-requires c =
    let a = c.self.inside in
    omega (arith, rw (← c.self.view_is) at c.requires, a.heads.items.ok.0, length-entries a.widths.accumulators a.widths.columns a.heads.items.items a.folds.items.items a.words.items.items a.windows.items.items)

pub returns-then-is_held : goal.returns-then-is_held
returns-then-is_held c =
    let a = c.self.inside in
    let w = a.widths.accumulators in let n = a.widths.columns in
    let within : c.args.slot < length a.heads.items.items = omega (arith, rw (← c.self.view_is) at c.requires, length-entries w n a.heads.items.items a.folds.items.items a.words.items.items a.windows.items.items) in
    let at = entry_at w n a.heads.items.items a.folds.items.items a.words.items.items a.windows.items.items c.args.slot c.index-head.result.now within ∙ ap (λ h. entry_by h (part_at c.args.slot w a.folds.items.items) (cells_by h.kinds (part_at c.args.slot n a.words.items.items)) (slice_get a.windows.items.items c.args.slot)) (sym c.index-head.ensures) in
    rw (← c.self.view_is) (rw (at, sym c.is_held.ensures ∙ c.if-is_held.true) (ap Some c.place.ensures))

pub returns-else-is_held : goal.returns-else-is_held
returns-else-is_held c =
    let a = c.self.inside in
    let w = a.widths.accumulators in let n = a.widths.columns in
    let within : c.args.slot < length a.heads.items.items = omega (arith, rw (← c.self.view_is) at c.requires, length-entries w n a.heads.items.items a.folds.items.items a.words.items.items a.windows.items.items) in
    let at = entry_at w n a.heads.items.items a.folds.items.items a.words.items.items a.windows.items.items c.args.slot c.index-head.result.now within ∙ ap (λ h. entry_by h (part_at c.args.slot w a.folds.items.items) (cells_by h.kinds (part_at c.args.slot n a.words.items.items)) (slice_get a.windows.items.items c.args.slot)) (sym c.index-head.ensures) in
    rw (← c.self.view_is) (rw (at, sym c.is_held.ensures ∙ c.if-is_held.false) refl)
