use Rattle.std.proofs.Common.{ap, ◌∙◌}
use Rattle.wsm_slots.specs.Layout.{entries_by}
use Rattle.wsm_slots.proofs.Laid.{entries_free}
use Rattle.wsm_slots.proofs.slots.Slots.open.Goals as goal

pub returns : goal.returns
returns c =
    let w = c.args.widths in
    let free = entries_free w.accumulators w.columns c.args.count c.free.result c.in_ok-copies-2.field-0.items.items c.in_ok-copies-3.field-0.items.items c.in_ok-copies-4.field-0.items.items c.free.ensures in
    let slots = ap (λ hs. entries_by w.accumulators w.columns hs c.in_ok-copies-2.field-0.items.items c.in_ok-copies-3.field-0.items.items c.in_ok-copies-4.field-0.items.items) c.in_ok-copies.ensures ∙ free in
    λ i. record { widths = w; slots = slots i }
