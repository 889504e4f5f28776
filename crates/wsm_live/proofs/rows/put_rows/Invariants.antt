use Rattle.std.proofs.Common.{◌≡◌, ◌≤◌, ◌+◌, ◌++◌, length}
use Rattle.wsm_follow.specs.Ended.{ended_lines}
use Rattle.wsm_live.specs.Kept.{rows_of}
use Rattle.wsm_live.proofs.rows.put_rows.Given as goal

-- the rows so far, with those of the lines that are left
abbrev pub invariant-loop-end : goal.invariant-loop-end
invariant-loop-end l = record {
  rows : l.rows.items ++ rows_of (ended_lines l.rest) ≡ rows_of (ended_lines l.text);
  count : l.count + length (ended_lines l.rest) ≡ length (ended_lines l.text);
  room : l.count + length l.rest ≤ length l.text;
}

abbrev pub decreases-loop-end : goal.decreases-loop-end
decreases-loop-end l = length l.rest
