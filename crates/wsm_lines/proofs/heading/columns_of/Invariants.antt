use Rattle.std.proofs.Common.{◌≡◌, drop}
use Rattle.wsm_parts.specs.Csv.{columns_of, columns_from}
use Rattle.wsm_lines.proofs.heading.columns_of.Given as goal

-- the names that are left go on from the columns so far
abbrev pub invariant-loop-name : goal.invariant-loop-name
invariant-loop-name l = columns_of l.names l.header ≡ columns_from l.columns.items (drop l.name-index l.names) l.header
