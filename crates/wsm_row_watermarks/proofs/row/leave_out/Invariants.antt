use Rattle.std.proofs.Common.{◌≡◌, [], take}
use Rattle.csv.specs.Records.{fields_of, partial_of}
use Rattle.wsm_row_watermarks.specs.Lines.{without}
use Rattle.wsm_row_watermarks.proofs.row.leave_out.Given as goal

abbrev pub invariant-loop-at : goal.invariant-loop-at
invariant-loop-at l = record { partial : partial_of l.cells ≡ []; cells : fields_of l.cells ≡ without l.place (take l.at (fields_of l.all)) }
