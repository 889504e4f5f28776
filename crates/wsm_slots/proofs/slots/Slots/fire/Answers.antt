use Rattle.std.proofs.Common.{◌≡◌, ◌≤◌, List, Option, Some, length, set, arith, ap, subst, sym, ◌∙◌}
use Rattle.std.proofs.lemmas.List.{with_items_is}
use Rattle.std.specs.Prelude.{IfSome, option_map}
use Rattle.std.specs.Option.{is_some}
use Rattle.wsm_record.specs.declared.cell.Cell.{Cell}
use Rattle.wsm_record.specs.Modes.{retracts}
use Rattle.wsm_windows.specs.Places.{window_of}
use Rattle.wsm_slots.specs.Panes.{once_fired}
use Rattle.wsm_slots.specs.Layout.{HasPart, IsWritten, entries_by, head_fired, place_by, with_window}
use Rattle.wsm_slots.proofs.Laid.{entry_read, has_row, part_ends, slot_within}
use Rattle.wsm_slots.proofs.Written.{few_any, has_any, if_mapped, length-with_window, length-written, of_mapped, set_fired, some_mapped, written_row}
use Rattle.wsm_slots.proofs.slots.Slots.fire.Goals as goal

pub index_mut-head-requires : goal.index_mut-head-requires
index_mut-head-requires c =
    let a = c.self.inside in
    omega (arith, slot_within a.widths.accumulators a.widths.columns a.heads.items.items a.folds.items.items a.words.items.items a.windows.items.items c.args.slot (rw (← c.self.view_is) at c.requires.slot), a.heads.items.ok.0)

pub write_row-kinds-requires-clause-few : goal.write_row-kinds-requires-clause-few
write_row-kinds-requires-clause-few c =
    let a = c.self.inside in
    let row : Option (List Cell) = option_map (λ cells. cells.now) c.args.row in
    let wide : IfSome row (λ ys. length ys ≡ a.widths.columns) = of_mapped (λ cells. cells.now) (λ ys. length ys ≡ a.widths.columns) c.args.row (rw (← c.self.view_is) at c.requires.wide) in
    if_mapped (λ cells. cells.now) (λ ys. length ys ≤ 16) c.args.row (few_any row a.widths.columns wide c.self.invariant.few.1)

pub write_row-kinds-requires-clause-part : goal.write_row-kinds-requires-clause-part
write_row-kinds-requires-clause-part c =
    let a = c.self.inside in
    let n = a.widths.columns in
    let rs = a.words.items.items in let i = c.args.slot in
    let row : Option (List Cell) = option_map (λ cells. cells.now) c.args.row in
    let within = slot_within a.widths.accumulators n a.heads.items.items a.folds.items.items rs a.windows.items.items i (rw (← c.self.view_is) at c.requires.slot) in
    let wide : IfSome row (λ ys. length ys ≡ n) = of_mapped (λ cells. cells.now) (λ ys. length ys ≡ n) c.args.row (rw (← c.self.view_is) at c.requires.wide) in
    rw c.deref_mut.ensures.value (if_mapped (λ cells. cells.now) (λ ys. HasPart i (length ys) rs) c.args.row (has_any i n rs row (has_row a.widths a.heads.items.items a.folds.items.items rs a.windows.items.items c.self.invariant i within) wide))

pub returns : goal.returns
returns c =
    let a = c.self.inside in
    let w = a.widths.accumulators in let n = a.widths.columns in
    let hs = a.heads.items.items in let fs = a.folds.items.items in let rs = a.words.items.items in let ws = a.windows.items.items in
    let i = c.args.slot in let h = c.index_mut-head.result.now in
    let row : Option (List Cell) = option_map (λ cells. cells.now) c.args.row in
    let kinds = c.write_row-kinds.result in
    let within = slot_within w n hs fs rs ws i (rw (← c.self.view_is) at c.requires.slot) in
    let wide : IfSome row (λ ys. length ys ≡ n) = of_mapped (λ cells. cells.now) (λ ys. length ys ≡ n) c.args.row (rw (← c.self.view_is) at c.requires.wide) in
    let ends = part_ends i n rs (has_row a.widths hs fs rs ws c.self.invariant i within) in
    let ys = c.write_row-kinds.new.words in
    let written = written_row i n rs ys kinds ends row wide (subst (λ xs. IsWritten i row xs ys kinds) c.deref_mut.ensures.value c.write_row-kinds.ensures) in
    let items = with_items_is a.words.items ys (omega (arith, length-written i n rs ys kinds ends row written, a.words.items.ok.0)) in
    let has : c.is_some.result ≡ is_some row = c.is_some.ensures ∙ some_mapped (λ cells. cells.now) c.args.row in
    let head : c.fire.new.self ≡ head_fired c.args.mode (is_some row) kinds h = c.fire.ensures ∙ ap (λ b. head_fired c.args.mode b kinds h) has in
    let its : c.window-window.result ≡ window_of (place_by h) = c.window-window.ensures ∙ ap window_of (c.place.ensures ∙ ap place_by head) in
    let window : c.write_window.new.windows ≡ with_window i ws (Some (window_of (place_by h))) =
    c.write_window.ensures ∙ (λ k. with_window i (c.deref_mut-2.ensures.value k) (Some (its k))) in
    let window_items = with_items_is a.windows.items c.write_window.new.windows (omega (arith, ap length window, length-with_window i ws (Some (window_of (place_by h))), a.windows.items.ok.0)) ∙ window in
    let kept : a.widths.windows ≡ retracts c.args.mode = rw (← c.self.view_is) at c.requires.windows in
    let slots = (λ k. entries_by w n (set hs i (head k)) fs (items k) (window_items k))
    ∙ set_fired a.widths hs fs rs ws c.self.invariant i within c.args.mode h kept row kinds ys written
    ∙ ap (set (entries_by w n hs fs rs ws) i) (ap (option_map (λ e. (e.0, once_fired c.args.mode e.0 row e.1))) (sym (entry_read w n hs fs rs ws i h within c.index_mut-head.ensures.value))) in
    rw (← c.self.view_is) (λ k. record { widths = a.widths; slots = slots k })
