use Rattle.std.proofs.Common.{◌≡◌, map, take}
use Rattle.wsm_query.specs.Adds.{adds}
use Rattle.wsm_query.specs.Print.{with_commas, expr_tokens}
use Rattle.wsm_query.specs.Seen.{seen_expr}
use Rattle.wsm_query.proofs.print_clauses.columns.Given as goal

-- the columns so far were added
abbrev pub invariant-loop-place : goal.invariant-loop-place
invariant-loop-place l = l.text.items ≡ adds l.fn.text.items (with_commas (map expr_tokens (map seen_expr (take l.place l.columns))))
