use Rattle.std.proofs.Common.{◌≡◌, take}
use Rattle.wsm_query.specs.Adds.{adds}
use Rattle.wsm_query.specs.Print.{name_tokens}
use Rattle.wsm_query.proofs.print_clauses.names.Given as goal

-- the names so far were added
abbrev pub invariant-loop-place : goal.invariant-loop-place
invariant-loop-place l = l.text.items ≡ adds l.fn.text.items (name_tokens (take l.place l.names))
