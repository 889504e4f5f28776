use Rattle.std.proofs.Common.{◌≡◌, ◌++◌, [], length}
use Rattle.csv.specs.Records.{fields_of, partial_of}
use Rattle.wsm_row_watermarks.specs.Lines.{cells_of}
use Rattle.wsm_row_watermarks.proofs.row.read_cells.Given as goal

-- the cells that were read, and those of the rest, are all
abbrev pub invariant-loop-end : goal.invariant-loop-end
invariant-loop-end l = record { partial : partial_of l.cells ≡ []; cells : fields_of l.cells ++ cells_of l.rest ≡ cells_of l.text }

abbrev pub decreases-loop-end : goal.decreases-loop-end
decreases-loop-end l = length l.rest
