use Rattle.std.proofs.Common.{◌≡◌, drop}
use Rattle.wsm_lines.specs.Entries.{number_begun}
use Rattle.wsm_lines.proofs.table.Prefixes.number_of.Given as goal

-- the text begins with no entry so far
abbrev pub invariant-loop-entry : goal.invariant-loop-entry
invariant-loop-entry l = number_begun l.self l.text ≡ number_begun (drop l.entry-index l.self) l.text
