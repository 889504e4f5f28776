use Rattle.std.proofs.Common.{◌≡◌, ◌++◌, take}
use Rattle.wsm_keep.specs.Begins.{begins_of}
use Rattle.wsm_keep.proofs.begins.add_begins.Given as goal

-- those of the rows so far are added
abbrev pub invariant-loop-row : goal.invariant-loop-row
invariant-loop-row l = l.begins.items ≡ l.fn.begins.items ++ begins_of (take l.row-index l.rows)
