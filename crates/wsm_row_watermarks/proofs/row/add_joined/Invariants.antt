use Rattle.std.proofs.Common.{◌≡◌, ◌++◌, take}
use Rattle.csv.specs.Records.{fields_of}
use Rattle.wsm_row_watermarks.specs.Lines.{joined}
use Rattle.wsm_row_watermarks.proofs.row.add_joined.Given as goal

abbrev pub invariant-loop-at : goal.invariant-loop-at
invariant-loop-at l = l.line.items ≡ l.fn.line.items ++ joined (take l.at (fields_of l.cells))
