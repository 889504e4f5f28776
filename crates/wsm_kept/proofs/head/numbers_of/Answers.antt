use Rattle.std.proofs.Common.{◌≡◌, ℕ, ap}
use Rattle.std.specs.Prelude.{slice_get}
use Rattle.csv.specs.Records.{fields_of}
use Rattle.wsm_kept.specs.Head.{head_cells}
use Rattle.wsm_kept.specs.Kept.{Cells}
use Rattle.wsm_kept.proofs.Heads.{same_numbers}
use Rattle.wsm_kept.proofs.head.numbers_of.Goals as goal

pub returns : goal.returns
returns c = λ h said is.
    let at : (k : ℕ) → slice_get (fields_of c.args.row.now) k ≡ slice_get (head_cells h) k = λ k. ap (λ (row : Cells). slice_get row k) is in
    same_numbers h _ _ _ _ _ _ (c.number_at.ensures h.rows said.rows (at 1)) (c.number_at-2.ensures h.lines said.lines (at 2)) (c.number_at-3.ensures h.kept said.kept (at 3))
    (c.number_at-4.ensures h.own said.own (at 4)) (c.number_at-5.ensures h.records said.records (at 5)) (c.number_at-6.ensures h.sum said.sum (at 6))
