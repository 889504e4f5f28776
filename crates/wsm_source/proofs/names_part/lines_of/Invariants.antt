use Rattle.std.proofs.Common.{◌≡◌, ◌≤◌, ◌+◌, drop}
use Rattle.wsm_source.specs.Names.{names_from, lines_of}
use Rattle.wsm_source.proofs.names_part.lines_of.Given as goal

-- what is left of the file ends as the whole
abbrev pub invariant-loop-byte : goal.invariant-loop-byte
invariant-loop-byte l =
    (names_from l.schema.keys l.file (drop l.byte-index l.text) ≡ lines_of l.schema.keys l.text) × (l.file.line ≤ l.byte-index + 1)
