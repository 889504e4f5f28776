use Rattle.std.proofs.Common.{◌≡◌, map, take}
use Rattle.wsm_query.specs.Seen.{seen_expr}
use Rattle.wsm_explain.specs.Ways.{way_of}
use Rattle.wsm_explain.proofs.ways.ways_of.Given as goal

-- those of the columns so far
abbrev pub invariant-loop-column : goal.invariant-loop-column
invariant-loop-column l = l.ways.items ≡ map (λ e. way_of (seen_expr e)) (take l.column-index l.columns)
