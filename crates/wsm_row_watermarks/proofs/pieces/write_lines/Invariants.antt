use Rattle.std.proofs.Common.{◌≡◌, ◌≤◌, ◌-◌, false, length, take}
use Rattle.std.specs.Io.KnownBytes.{Appends}
use Rattle.wsm_row_watermarks.proofs.pieces.write_lines.Given as goal

-- the first `done` bytes were taken
abbrev pub invariant-loop-done : goal.invariant-loop-done
invariant-loop-done g l = record {
  within : l.done ≤ length l.rows;
  taken : Appends (g.D.Device.taken l.fn.device) (g.D.Device.taken l.device) (take l.done l.rows);
  works : g.D.Device.has_failed l.device ≡ false;
}

abbrev pub decreases-loop-done : goal.decreases-loop-done
decreases-loop-done g l = length l.initial.rows - l.done
