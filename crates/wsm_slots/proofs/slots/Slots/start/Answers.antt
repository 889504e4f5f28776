use Rattle.std.proofs.Common.{◌≡◌, length, set, arith, ap, ◌∙◌}
use Rattle.std.proofs.lemmas.List.{with_items_is}
use Rattle.std.specs.Prelude.{slice_get}
use Rattle.wsm_slots.specs.Layout.{entries_by, entry_by, part_at, with_part}
use Rattle.wsm_slots.specs.RowWords.{cells_by}
use Rattle.wsm_slots.proofs.Laid.{has_folds, length-with_part, part_ends, set_folds, slot_within}
use Rattle.wsm_slots.proofs.slots.Slots.start.Goals as goal

pub index_mut-requires : goal.index_mut-requires
index_mut-requires c =
    let a = c.self.inside in
    omega (arith, slot_within a.widths.accumulators a.widths.columns a.heads.items.items a.folds.items.items a.words.items.items a.windows.items.items c.args.slot (rw (← c.self.view_is) at c.requires.slot), a.heads.items.ok.0)

pub write_part-requires : goal.write_part-requires
write_part-requires c =
    let a = c.self.inside in
    let within = slot_within a.widths.accumulators a.widths.columns a.heads.items.items a.folds.items.items a.words.items.items a.windows.items.items c.args.slot (rw (← c.self.view_is) at c.requires.slot) in
    let wide : length c.args.values.now ≡ a.widths.accumulators = rw (← c.self.view_is) at c.requires.wide in
    rw (wide, c.deref_mut.ensures.value) (has_folds a.widths a.heads.items.items a.folds.items.items a.words.items.items a.windows.items.items c.self.invariant c.args.slot within)

pub returns : goal.returns
returns c kinds =
    let a = c.self.inside in
    let w = a.widths.accumulators in let n = a.widths.columns in
    let hs = a.heads.items.items in let fs = a.folds.items.items in let rs = a.words.items.items in let ws = a.windows.items.items in
    let i = c.args.slot in let values = c.args.values.now in
    let within = slot_within w n hs fs rs ws i (rw (← c.self.view_is) at c.requires.slot) in
    let wide : length values ≡ w = rw (← c.self.view_is) at c.requires.wide in
    let part : c.write_part.new.values ≡ with_part i w fs values = c.write_part.ensures ∙ ap (λ k. with_part i k c.deref_mut.result.now values) wide ∙ ap (λ xs. with_part i w xs values) c.deref_mut.ensures.value in
    let items = with_items_is a.folds.items c.write_part.new.values (omega (arith, ap length part, length-with_part i w fs values (part_ends i w fs (has_folds a.widths hs fs rs ws c.self.invariant i within)) wide, a.folds.items.ok.0)) ∙ part in
    let slots = ap (λ xs. entries_by w n (set hs i c.of_one.result) xs rs ws) items ∙ set_folds a.widths hs fs rs ws c.self.invariant i within c.of_one.result values wide ∙ ap (λ h. set (entries_by w n hs fs rs ws) i (entry_by h values (cells_by h.kinds (part_at i n rs)) (slice_get ws i))) c.of_one.ensures in
    rw (← c.self.view_is) (λ k. record { widths = a.widths; slots = slots k })
