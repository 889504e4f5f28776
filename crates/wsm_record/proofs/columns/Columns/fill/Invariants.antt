use Rattle.std.proofs.Common.{◌≡◌, take}
use Rattle.wsm_record.proofs.columns.Columns.fill.Given as goal

abbrev pub invariant-loop-cell : goal.invariant-loop-cell
invariant-loop-cell l = l.self ≡ take l.cell-index l.cells
