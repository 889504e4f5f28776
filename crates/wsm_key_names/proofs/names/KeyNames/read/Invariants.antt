use Rattle.std.proofs.Common.{◌≡◌, ◌+◌, ◌≤◌, length}
use Rattle.wsm_log.specs.LinesOf.{lines_of}
use Rattle.wsm_key_names.specs.Names.{names_behind, names_of_text}
use Rattle.wsm_key_names.proofs.names.KeyNames.read.Given as goal

-- the lines that are left come to the same behind the names so far, which are one a line
abbrev pub invariant-loop-rest : goal.invariant-loop-rest
invariant-loop-rest l = (names_behind l.names (lines_of l.rest) ≡ names_of_text l.fn.text) × (l.line ≡ length l.names) × (l.line + length l.rest ≤ length l.fn.text)

abbrev pub decreases-loop-rest : goal.decreases-loop-rest
decreases-loop-rest l = length l.rest
