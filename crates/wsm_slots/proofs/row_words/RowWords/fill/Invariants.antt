use Rattle.std.proofs.Common.{◌≡◌, ◌++◌, length, drop}
use Rattle.wsm_slots.specs.RowWords.{cells_by}
use Rattle.wsm_slots.proofs.row_words.RowWords.fill.Given as goal

abbrev pub invariant-loop-word : goal.invariant-loop-word
invariant-loop-word l = record {
  long : length l.columns ≡ l.word-index;
  cells : l.columns ++ cells_by l.kinds (drop l.word-index l.self.words.now) ≡ cells_by l.self.kinds l.self.words.now;
}
