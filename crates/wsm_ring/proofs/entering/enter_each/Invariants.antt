use Rattle.std.proofs.Common.{pos, ◌≡◌, ◌+◌, length, [], ◌-ℤ◌, ◌<ℤ◌}
use Rattle.std.specs.FinMap as map
use Rattle.wsm_windows.specs.Windows.{IsRising}
use Rattle.wsm_semantics.specs.Replay.{datum}
use Rattle.wsm_semantics.specs.Summaries.{assigned}
use Rattle.wsm_ring.specs.Entering.{CanEnterWindows}
use Rattle.wsm_slots.specs.Panes.{taking}
use Rattle.wsm_ring.specs.Ring.{IsRow}
use Rattle.wsm_ring.proofs.Rows.{ending_past, windows_on}
use Rattle.wsm_ring.proofs.Scan.{left_until}
use Rattle.wsm_ring.proofs.entering.enter_each.Given as goal

-- to put the record into the panes of the windows from the row on comes to putting it into all, and it can be done
abbrev pub invariant-loop-row : goal.invariant-loop-row
invariant-loop-row l = record {
  panes : assigned (taking l.kinds l.values) (datum 0 (pos 0) l.key l.time []) (windows_on l.ring l.time l.row.start) (map.entries l.table.panes)
      ≡ assigned (taking l.kinds l.values) (datum 0 (pos 0) l.key l.time []) (ending_past l.ring l.time l.past) (map.entries l.fn.table.panes);
  can : CanEnterWindows l.table.ring l.kinds l.values l.key l.time (windows_on l.ring l.time l.row.start) (map.entries l.table.panes);
  rising : IsRising (windows_on l.ring l.time l.row.start);
  ring : l.table.ring ≡ l.fn.table.ring;
  widths : l.table.widths ≡ l.fn.table.widths;
  row : IsRow l.ring l.row;
  behind : (l.time -ℤ l.ring.size) <ℤ l.row.start;
  count : l.count + length (windows_on l.ring l.time l.row.start) ≡ length (ending_past l.ring l.time l.past);
}

abbrev pub decreases-loop-row : goal.decreases-loop-row
decreases-loop-row l = left_until l.row.start l.time
