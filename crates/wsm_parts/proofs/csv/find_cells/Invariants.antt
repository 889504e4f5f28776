use Rattle.std.proofs.Common.{◌≡◌, ◌≤◌, drop}
use Rattle.wsm_parts.specs.Csv.{cells_of, cells_from}
use Rattle.wsm_parts.specs.Spans.{row_seen}
use Rattle.wsm_parts.proofs.csv.find_cells.Given as goal

-- the bytes that are left go on from the row so far
abbrev pub invariant-loop-i : goal.invariant-loop-i
invariant-loop-i l = record {
  row : cells_of l.separator l.line ≡ cells_from l.separator (row_seen l.line l.i l.cursor l.spans.items) (drop l.i l.line);
  begun : l.cursor.start ≤ l.i;
}
