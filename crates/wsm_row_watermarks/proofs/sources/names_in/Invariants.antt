use Rattle.std.proofs.Common.{◌≡◌, take}
use Rattle.wsm_row_watermarks.proofs.sources.names_in.Given as goal

-- the names so far
abbrev pub invariant-loop-number : goal.invariant-loop-number
invariant-loop-number l = l.list.items ≡ take l.number l.names
