use Rattle.std.proofs.Common.{◌≡◌, ℕ, List, false}
use Rattle.wsm_log.specs.Lines.{Follows, turns_left}
use Rattle.wsm_log_rows.specs.Rows.{HasWritten}
use Rattle.wsm_log_rows.proofs.rows.write_rows.Given as goal

-- these lines were read, and their rows taken
abbrev pub invariant-loop-rows : goal.invariant-loop-rows
invariant-loop-rows g l = record {
  works : g.D.Device.has_failed l.out ≡ false;
  rows : (read : List (List ℕ)) × Follows l.fn.source.longest g.R.Read.remaining (g.R.Read.remaining l.fn.reader) read l.lines × HasWritten l.fn.source l.fn.schema read (g.D.Device.taken l.fn.out) (g.D.Device.taken l.out) l.rows;
}

abbrev pub decreases-loop-rows : goal.decreases-loop-rows
decreases-loop-rows g l = turns_left l.lines
