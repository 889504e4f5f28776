use Rattle.std.proofs.Common.{◌≡◌, length, arith, ap, refl, ◌∙◌}
use Rattle.std.specs.Option.{is_some}
use Rattle.std.specs.Prelude.{slice_get}
use Rattle.wsm_slots.specs.Layout.{part_at}
use Rattle.wsm_slots.specs.RowWords.{cells_by}
use Rattle.wsm_slots.proofs.Laid.{entry_read, has_folds, has_row, has_window, head_held, length-part, part_ends, slot_held}
use Rattle.wsm_slots.proofs.Written.{folded_few, folded_wide, length-cells_by, standing_wide, standing_window}
use Rattle.wsm_slots.proofs.slots.Slots.pane.Goals as goal

pub index-head-requires : goal.index-head-requires
index-head-requires c =
    let a = c.self.inside in
    omega (arith, slot_held a.widths.accumulators a.widths.columns a.heads.items.items a.folds.items.items a.words.items.items a.windows.items.items c.args.slot (rw (← c.self.view_is) at c.requires), a.heads.items.ok.0)

pub part-requires : goal.part-requires
part-requires c =
    let a = c.self.inside in
    rw c.deref.ensures.value (has_folds a.widths a.heads.items.items a.folds.items.items a.words.items.items a.windows.items.items c.self.invariant c.args.slot (slot_held a.widths.accumulators a.widths.columns a.heads.items.items a.folds.items.items a.words.items.items a.windows.items.items c.args.slot (rw (← c.self.view_is) at c.requires)))

pub part-requires-2 : goal.part-requires-2
part-requires-2 c =
    let a = c.self.inside in
    rw c.deref-2.ensures.value (has_row a.widths a.heads.items.items a.folds.items.items a.words.items.items a.windows.items.items c.self.invariant c.args.slot (slot_held a.widths.accumulators a.widths.columns a.heads.items.items a.folds.items.items a.words.items.items a.windows.items.items c.args.slot (rw (← c.self.view_is) at c.requires)))

pub returns : goal.returns
returns c =
    let a = c.self.inside in
    let w = a.widths.accumulators in let n = a.widths.columns in
    let hs = a.heads.items.items in let fs = a.folds.items.items in let rs = a.words.items.items in let ws = a.windows.items.items in
    let i = c.args.slot in let h = c.index-head.result.now in
    let some = rw (← c.self.view_is) at c.requires in
    let within = slot_held w n hs fs rs ws i some in
    let there = head_held w n hs fs rs ws i h some c.index-head.ensures in
    let at = entry_read w n hs fs rs ws i h within c.index-head.ensures in
    let folds : length c.part.result.now ≡ w = ap length (c.part.ensures ∙ ap (part_at i w) c.deref.ensures.value) ∙ length-part i w fs (part_ends i w fs (has_folds a.widths hs fs rs ws c.self.invariant i within)) in
    let row : length c.part-2.result.now ≡ n = ap length (c.part-2.ensures ∙ ap (part_at i n) c.deref-2.ensures.value) ∙ length-part i n rs (part_ends i n rs (has_row a.widths hs fs rs ws c.self.invariant i within)) in
    let window : c.window_at.result ≡ slice_get ws i = c.window_at.ensures ∙ ap (λ vs. slice_get vs i) c.deref-3.ensures.value in
    let kept : is_some c.window_at.result ≡ a.widths.windows = ap is_some window ∙ has_window a.widths hs fs rs ws c.self.invariant i within in
    record {
      same = rw (← c.self.view_is) (rw (at, there, window, c.is_folded.ensures, c.part.ensures, c.part-2.ensures, c.deref.ensures.value, c.deref-2.ensures.value) refl);
      wide = rw (← c.self.view_is) (record { folds = folded_wide c.is_folded.result c.part.result.now w folds; row = standing_wide h.stands c.window_at.result (cells_by h.kinds c.part-2.result.now) n (length-cells_by h.kinds c.part-2.result.now ∙ row); window = standing_window h.stands c.window_at.result (cells_by h.kinds c.part-2.result.now) a.widths.windows kept });
      few = folded_few c.is_folded.result c.part.result.now (omega (arith, folds, c.self.invariant.few.0));
    }
