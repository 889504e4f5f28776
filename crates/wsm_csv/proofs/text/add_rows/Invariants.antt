use Rattle.std.proofs.Common.{◌≡◌, ◌++◌, map, take}
use Rattle.wsm_semantics.specs.Lines.{Out}
use Rattle.wsm_semantics.specs.Text.{lines_text}
use Rattle.wsm_csv.proofs.text.add_rows.Given as goal

-- the rows so far have their lines
abbrev pub invariant-loop-row : goal.invariant-loop-row
invariant-loop-row l = l.out.items ≡ l.fn.out.items ++ lines_text l.schema (map Out (take l.row-index l.rows))
