use Rattle.std.proofs.Common.{◌∙◌, ◌++◌, ◌∷◌, [], ◌+◌, ◌<◌, ℕ, ap, sym, length, take, arith}
use Rattle.csv.specs.Records.{fields_of}
use Rattle.wsm_row_watermarks.specs.Lines.{without}
use Rattle.wsm_row_watermarks.proofs.Cells.{without_at, without_other}
use Rattle.wsm_row_watermarks.proofs.row.leave_out.Goals as goal
use Rattle.wsm_row_watermarks.proofs.row.leave_out.Goals.{then-at-place+in_ok-push_field, else-at-place}

pub loop-at-preserved : goal.loop-at-preserved
loop-at-preserved c =
    let all = fields_of c.args.all.now in
    let within : c.loop-at.at < length all = omega (arith, c.loop-at-test.true, c.len-at-end.ensures) in
    elim c.if-at-place.branch [
      | then-at-place+in_ok-push_field w ↦ rw w.cells-is (record {
        partial = w.in_ok-push_field.ensures.partial;
        cells = w.in_ok-push_field.ensures.fields
            ∙ (λ i. c.loop-at.invariant.cells i ++ ((c.loop-at.invariant.partial i ++ w.cell_at.ensures i) ∷ []))
            ∙ sym (without_other c.args.place c.loop-at.at all [] within w.if-at-place.true);
      })
      | else-at-place w ↦ rw w.cells-is (record {
        partial = c.loop-at.invariant.partial;
        cells = c.loop-at.invariant.cells
            ∙ ap (λ (n : ℕ). without c.args.place (take n all)) w.if-at-place.false
            ∙ sym (without_at c.args.place all)
            ∙ ap (λ (n : ℕ). without c.args.place (take (n + 1) all)) (sym w.if-at-place.false);
      })
    ]
