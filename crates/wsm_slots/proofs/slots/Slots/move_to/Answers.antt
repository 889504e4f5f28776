use Rattle.std.proofs.Common.{◌<◌, length, arith, ap, sym, set, ◌∙◌}
use Rattle.std.specs.Prelude.{option_map, slice_get}
use Rattle.wsm_slots.specs.Layout.{entries_by, part_at}
use Rattle.wsm_slots.proofs.Laid.{entry_read, length-entries, moved_to, set_head}
use Rattle.wsm_slots.proofs.slots.Slots.move_to.Goals as goal

pub index_mut-requires : goal.index_mut-requires
index_mut-requires c =
    let a = c.self.inside in
    omega (arith, rw (← c.self.view_is) at c.requires, a.heads.items.ok.0, length-entries a.widths.accumulators a.widths.columns a.heads.items.items a.folds.items.items a.words.items.items a.windows.items.items)

pub returns : goal.returns
returns c =
    let a = c.self.inside in
    let w = a.widths.accumulators in let n = a.widths.columns in
    let hs = a.heads.items.items in let fs = a.folds.items.items in let rs = a.words.items.items in let ws = a.windows.items.items in
    let i = c.args.slot in let h = c.index_mut.result.now in
    let within : i < length hs = omega (arith, rw (← c.self.view_is) at c.requires, length-entries w n hs fs rs ws) in
    let slots = set_head a.widths hs fs rs ws c.self.invariant i within c.move_to.new.self
    ∙ ap (λ o. set (entries_by w n hs fs rs ws) i o) (moved_to c.args.place h c.move_to.new.self c.move_to.ensures (part_at i w fs) (part_at i n rs) (slice_get ws i)
    ∙ ap (option_map (λ e. (c.args.place, e.1))) (sym (entry_read w n hs fs rs ws i h within c.index_mut.ensures.value))) in
    rw (← c.self.view_is) (λ k. record { widths = a.widths; slots = slots k })
