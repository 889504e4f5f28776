use Rattle.std.proofs.Common.{◌≡◌, ◌≤◌, length, arith, ap, subst, sym, ◌∙◌}
use Rattle.std.proofs.lemmas.List.{with_items_is}
use Rattle.std.specs.Prelude.{IfSome, option_map}
use Rattle.wsm_semantics.specs.Summaries.{standing_row}
use Rattle.wsm_slots.specs.Layout.{HasPart, IsAsWide, IsWritten, with_any, with_window}
use Rattle.wsm_slots.specs.View.{window_stood}
use Rattle.wsm_slots.proofs.Laid.{has_folds, has_row, part_ends, slot_within}
use Rattle.wsm_slots.proofs.Written.{few_any, has_any, if_mapped, length-with_any, length-with_window, length-written, put_is, written_row}
use Rattle.wsm_slots.proofs.slots.Slots.put.Goals as goal

pub index_mut-requires : goal.index_mut-requires
index_mut-requires c =
    let a = c.self.inside in
    omega (arith, slot_within a.widths.accumulators a.widths.columns a.heads.items.items a.folds.items.items a.words.items.items a.windows.items.items c.args.slot (rw (← c.self.view_is) at c.requires.slot), a.heads.items.ok.0)

pub write_any-requires : goal.write_any-requires
write_any-requires c =
    let a = c.self.inside in
    let w = a.widths.accumulators in
    let hs = a.heads.items.items in let fs = a.folds.items.items in let rs = a.words.items.items in let ws = a.windows.items.items in
    let i = c.args.slot in let pane = c.args.pane.now in
    let within = slot_within w a.widths.columns hs fs rs ws i (rw (← c.self.view_is) at c.requires.slot) in
    let wide : IsAsWide a.widths pane = rw (← c.self.view_is) at c.requires.wide in
    let has = has_any i w fs pane.folded (has_folds a.widths hs fs rs ws c.self.invariant i within) wide.folds in
    rw c.deref_mut-2.ensures.value (if_mapped (λ x. x.now) (λ ys. HasPart i (length ys) fs) c.folded.result (subst (λ o. IfSome o (λ ys. HasPart i (length ys) fs)) (sym c.folded.ensures) has))

pub write_row-kinds-requires-clause-few : goal.write_row-kinds-requires-clause-few
write_row-kinds-requires-clause-few c =
    let a = c.self.inside in
    let row = standing_row c.args.pane.now.stands in
    let wide : IsAsWide a.widths c.args.pane.now = rw (← c.self.view_is) at c.requires.wide in
    let few = few_any row a.widths.columns wide.row c.self.invariant.few.1 in
    if_mapped (λ x. x.now) (λ ys. length ys ≤ 16) c.cells_of.result (subst (λ o. IfSome o (λ ys. length ys ≤ 16)) (sym (c.cells_of.ensures ∙ c.standing_row-row.ensures)) few)

pub write_row-kinds-requires-clause-part : goal.write_row-kinds-requires-clause-part
write_row-kinds-requires-clause-part c =
    let a = c.self.inside in
    let n = a.widths.columns in
    let hs = a.heads.items.items in let fs = a.folds.items.items in let rs = a.words.items.items in let ws = a.windows.items.items in
    let i = c.args.slot in let pane = c.args.pane.now in
    let within = slot_within a.widths.accumulators n hs fs rs ws i (rw (← c.self.view_is) at c.requires.slot) in
    let wide : IsAsWide a.widths pane = rw (← c.self.view_is) at c.requires.wide in
    let has = has_any i n rs (standing_row pane.stands) (has_row a.widths hs fs rs ws c.self.invariant i within) wide.row in
    rw c.deref_mut.ensures.value (if_mapped (λ x. x.now) (λ ys. HasPart i (length ys) rs) c.cells_of.result (subst (λ o. IfSome o (λ ys. HasPart i (length ys) rs)) (sym (c.cells_of.ensures ∙ c.standing_row-row.ensures)) has))

pub returns : goal.returns
returns c =
    let a = c.self.inside in
    let w = a.widths.accumulators in let n = a.widths.columns in
    let hs = a.heads.items.items in let fs = a.folds.items.items in let rs = a.words.items.items in let ws = a.windows.items.items in
    let i = c.args.slot in let pane = c.args.pane.now in
    let row = standing_row pane.stands in
    let kinds = c.write_row-kinds.result in
    let within = slot_within w n hs fs rs ws i (rw (← c.self.view_is) at c.requires.slot) in
    let wide : IsAsWide a.widths pane = rw (← c.self.view_is) at c.requires.wide in
    let fold_ends = part_ends i w fs (has_folds a.widths hs fs rs ws c.self.invariant i within) in
    let row_ends = part_ends i n rs (has_row a.widths hs fs rs ws c.self.invariant i within) in
    let folds : c.write_any.new.values ≡ with_any i fs pane.folded =
    c.write_any.ensures ∙ ap (λ xs. with_any i xs (option_map (λ x. x.now) c.folded.result)) c.deref_mut-2.ensures.value ∙ ap (with_any i fs) c.folded.ensures in
    let ys = c.write_row-kinds.new.words in
    let its = c.cells_of.ensures ∙ c.standing_row-row.ensures in
    let written = written_row i n rs ys kinds row_ends row wide.row
    (subst (λ xs. IsWritten i row xs ys kinds) c.deref_mut.ensures.value (subst (λ o. IsWritten i o c.deref_mut.result.now ys kinds) its c.write_row-kinds.ensures)) in
    let fold_items = with_items_is a.folds.items c.write_any.new.values (omega (arith, ap length folds, length-with_any i w fs pane.folded fold_ends wide.folds, a.folds.items.ok.0)) ∙ folds in
    let row_items = with_items_is a.words.items ys (omega (arith, length-written i n rs ys kinds row_ends row written, a.words.items.ok.0)) in
    let window : c.write_window.new.windows ≡ with_window i ws (window_stood pane.stands) =
    c.write_window.ensures ∙ ap (λ vs. with_window i vs c.window.result) c.deref_mut-3.ensures.value ∙ ap (with_window i ws) c.window.ensures in
    let window_items = with_items_is a.windows.items c.write_window.new.windows (omega (arith, ap length window, length-with_window i ws (window_stood pane.stands), a.windows.items.ok.0)) ∙ window in
    let slots = put_is a.widths hs fs rs ws c.self.invariant i within c.args.place pane wide kinds ys written c.of_pane.result _ _ _ c.of_pane.ensures fold_items row_items window_items in
    rw (← c.self.view_is) (λ k. record { widths = a.widths; slots = slots k })
