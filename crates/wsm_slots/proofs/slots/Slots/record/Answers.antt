use Rattle.std.proofs.Common.{◌≡◌, List, Some, length, set, arith, ap, subst, sym, ◌∙◌}
use Rattle.std.proofs.lemmas.List.{with_items_is}
use Rattle.std.specs.Prelude.{IfSome, option_map, slice_get}
use Rattle.wsm_record.specs.declared.event.Value.{Value}
use Rattle.wsm_slots.specs.Panes.{CanRecord, with_one_more}
use Rattle.wsm_slots.specs.Layout.{entries_by, entry_by, folded_on, head_with_one_more, part_at, with_part}
use Rattle.wsm_slots.specs.RowWords.{cells_by}
use Rattle.wsm_slots.specs.Slots.{slot_at}
use Rattle.wsm_slots.proofs.Laid.{can_record, entry_read, has_folds, head_held, length-folded_on, length-part, length-with_part, part_ends, recorded, set_folds, slot_held}
use Rattle.wsm_slots.proofs.slots.Slots.record.Goals as goal

pub fold_part-requires-clause-part : goal.fold_part-requires-clause-part
fold_part-requires-clause-part c =
    let a = c.self.inside in
    let within = slot_held a.widths.accumulators a.widths.columns a.heads.items.items a.folds.items.items a.words.items.items a.windows.items.items c.args.slot (rw (← c.self.view_is) at c.requires.there) in
    let wide : length c.args.values.now ≡ a.widths.accumulators = rw (← c.self.view_is) at c.requires.wide in
    rw (wide, c.deref_mut.ensures.value) (has_folds a.widths a.heads.items.items a.folds.items.items a.words.items.items a.windows.items.items c.self.invariant c.args.slot within)

pub fold_part-requires-clause-takes : goal.fold_part-requires-clause-takes
fold_part-requires-clause-takes c =
    let a = c.self.inside in
    let w = a.widths.accumulators in let n = a.widths.columns in
    let hs = a.heads.items.items in let fs = a.folds.items.items in let rs = a.words.items.items in let ws = a.windows.items.items in
    let i = c.args.slot in let kinds = c.args.kinds.now in let values = c.args.values.now in let h = c.index_mut-head.result.now in
    let some = rw (← c.self.view_is) at c.requires.there in
    let wide : length values ≡ w = rw (← c.self.view_is) at c.requires.wide in
    let takes : IfSome (slot_at (entries_by w n hs fs rs ws) i) (λ e. CanRecord kinds values e.1) = rw (← c.self.view_is) at c.requires.takes in
    let can = can_record kinds values h (part_at i w fs) (cells_by h.kinds (part_at i n rs)) (slice_get ws i) (head_held w n hs fs rs ws i h some c.index_mut-head.ensures.value) (subst (λ o. IfSome o (λ e. CanRecord kinds values e.1)) (entry_read w n hs fs rs ws i h (slot_held w n hs fs rs ws i some) c.index_mut-head.ensures.value) takes) in
    rw (wide, c.deref_mut.ensures.value, c.is_folded-is_folded.ensures) can.2

pub index_mut-head-requires : goal.index_mut-head-requires
index_mut-head-requires c =
    let a = c.self.inside in
    omega (arith, slot_held a.widths.accumulators a.widths.columns a.heads.items.items a.folds.items.items a.words.items.items a.windows.items.items c.args.slot (rw (← c.self.view_is) at c.requires.there), a.heads.items.ok.0)

pub record-requires-clause-count : goal.record-requires-clause-count
record-requires-clause-count c =
    let a = c.self.inside in
    let w = a.widths.accumulators in let n = a.widths.columns in
    let hs = a.heads.items.items in let fs = a.folds.items.items in let rs = a.words.items.items in let ws = a.windows.items.items in
    let i = c.args.slot in let kinds = c.args.kinds.now in let values = c.args.values.now in let h = c.index_mut-head.result.now in
    let some = rw (← c.self.view_is) at c.requires.there in
    let takes : IfSome (slot_at (entries_by w n hs fs rs ws) i) (λ e. CanRecord kinds values e.1) = rw (← c.self.view_is) at c.requires.takes in
    (can_record kinds values h (part_at i w fs) (cells_by h.kinds (part_at i n rs)) (slice_get ws i) (head_held w n hs fs rs ws i h some c.index_mut-head.ensures.value) (subst (λ o. IfSome o (λ e. CanRecord kinds values e.1)) (entry_read w n hs fs rs ws i h (slot_held w n hs fs rs ws i some) c.index_mut-head.ensures.value) takes)).0

pub record-requires-clause-unshown : goal.record-requires-clause-unshown
record-requires-clause-unshown c =
    let a = c.self.inside in
    let w = a.widths.accumulators in let n = a.widths.columns in
    let hs = a.heads.items.items in let fs = a.folds.items.items in let rs = a.words.items.items in let ws = a.windows.items.items in
    let i = c.args.slot in let kinds = c.args.kinds.now in let values = c.args.values.now in let h = c.index_mut-head.result.now in
    let some = rw (← c.self.view_is) at c.requires.there in
    let takes : IfSome (slot_at (entries_by w n hs fs rs ws) i) (λ e. CanRecord kinds values e.1) = rw (← c.self.view_is) at c.requires.takes in
    (can_record kinds values h (part_at i w fs) (cells_by h.kinds (part_at i n rs)) (slice_get ws i) (head_held w n hs fs rs ws i h some c.index_mut-head.ensures.value) (subst (λ o. IfSome o (λ e. CanRecord kinds values e.1)) (entry_read w n hs fs rs ws i h (slot_held w n hs fs rs ws i some) c.index_mut-head.ensures.value) takes)).1

pub returns : goal.returns
returns c =
    let a = c.self.inside in
    let w = a.widths.accumulators in let n = a.widths.columns in
    let hs = a.heads.items.items in let fs = a.folds.items.items in let rs = a.words.items.items in let ws = a.windows.items.items in
    let i = c.args.slot in let kinds = c.args.kinds.now in let values = c.args.values.now in let h = c.index_mut-head.result.now in
    let some = rw (← c.self.view_is) at c.requires.there in
    let within = slot_held w n hs fs rs ws i some in
    let wide : length values ≡ w = rw (← c.self.view_is) at c.requires.wide in
    let on = c.is_folded-is_folded.result in
    let row : List Value = folded_on on kinds (part_at i w fs) values in
    let part : c.fold_part.new.values ≡ with_part i w fs row =
    c.fold_part.ensures ∙ ap (λ k. with_part i k c.deref_mut.result.now (folded_on on kinds (part_at i k c.deref_mut.result.now) values)) wide
    ∙ ap (λ xs. with_part i w xs (folded_on on kinds (part_at i w xs) values)) c.deref_mut.ensures.value in
    let long : length row ≡ w = length-folded_on on kinds (part_at i w fs) values w c.requires.types wide (length-part i w fs (part_ends i w fs (has_folds a.widths hs fs rs ws c.self.invariant i within))) in
    let items = with_items_is a.folds.items c.fold_part.new.values (omega (arith, ap length part, length-with_part i w fs row (part_ends i w fs (has_folds a.widths hs fs rs ws c.self.invariant i within)) long, a.folds.items.ok.0)) ∙ part in
    let entry = ap (λ b. entry_by (head_with_one_more h) (folded_on b kinds (part_at i w fs) values) (cells_by h.kinds (part_at i n rs)) (slice_get ws i)) c.is_folded-is_folded.ensures ∙ recorded kinds values h (part_at i w fs) (cells_by h.kinds (part_at i n rs)) (slice_get ws i) (head_held w n hs fs rs ws i h some c.index_mut-head.ensures.value) in
    let slots = ap (λ xs. entries_by w n (set hs i c.record.new.self) xs rs ws) items ∙ set_folds a.widths hs fs rs ws c.self.invariant i within c.record.new.self row long
    ∙ ap (λ x. set (entries_by w n hs fs rs ws) i (entry_by x row (cells_by x.kinds (part_at i n rs)) (slice_get ws i))) c.record.ensures
    ∙ ap (set (entries_by w n hs fs rs ws) i) (entry ∙ ap (λ o. option_map (λ e. (e.0, with_one_more kinds values (Some e.1))) o) (sym (entry_read w n hs fs rs ws i h within c.index_mut-head.ensures.value))) in
    rw (← c.self.view_is) (λ k. record { widths = a.widths; slots = slots k })
