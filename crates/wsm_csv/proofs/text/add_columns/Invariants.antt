use Rattle.std.proofs.Common.{◌≡◌, ◌++◌, drop, map}
use Rattle.wsm_semantics.specs.Text.{cell_text}
use Rattle.wsm_csv.specs.Lines.{cells_text}
use Rattle.wsm_csv.proofs.text.add_columns.Given as goal

-- what was added, with the cells of what is left, is what all cells add
abbrev pub invariant-loop-column : goal.invariant-loop-column
invariant-loop-column l = l.fn.out.items ++ cells_text (map (cell_text l.schema) l.columns) ≡ l.out.items ++ cells_text (map (cell_text l.schema) (drop l.column-index l.columns))
