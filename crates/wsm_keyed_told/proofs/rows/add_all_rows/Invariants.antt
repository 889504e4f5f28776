use Rattle.std.proofs.Common.{◌≡◌, ◌++◌, take, map}
use Rattle.wsm_semantics.specs.Lines.{Out}
use Rattle.wsm_keyed_told.specs.KeyedLines.{keyed_lines}
use Rattle.wsm_keyed_told.proofs.rows.add_all_rows.Given as goal

-- the rows that were gone over were written
abbrev pub invariant-loop-i : goal.invariant-loop-i
invariant-loop-i l = l.lines.items ≡ l.fn.lines.items ++ keyed_lines l.fn.parts.program.header.schema l.fn.names (map Out (take l.i l.fn.parts.rows))
