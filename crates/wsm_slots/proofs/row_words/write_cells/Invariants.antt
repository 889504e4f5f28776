use Rattle.std.proofs.Common.{◌≡◌, ◌-◌, ◌<◌, ◌^◌, length, drop}
use Rattle.wsm_slots.specs.RowWords.{cells_by}
use Rattle.wsm_slots.proofs.row_words.write_cells.Given as goal

-- the cells from a place on were written, and their kinds are as many digits
abbrev pub invariant-loop-place : goal.invariant-loop-place
invariant-loop-place l = record {
  long : length l.words ≡ length l.cells;
  digits : l.kinds < 4 ^ (length l.cells - l.place);
  cells : cells_by l.kinds (drop l.place l.words) ≡ drop l.place l.cells;
}
