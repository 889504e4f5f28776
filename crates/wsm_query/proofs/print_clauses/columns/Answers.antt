use Rattle.std.proofs.Common.{arith}
use Rattle.wsm_query.specs.Print.{expr_tokens}
use Rattle.wsm_query.specs.Seen.{seen_expr}
use Rattle.wsm_query.proofs.Written.{commas_next_of}
use Rattle.wsm_query.proofs.print_clauses.columns.Goals as goal

pub loop-place-preserved : goal.loop-place-preserved
loop-place-preserved c =
    commas_next_of expr_tokens seen_expr c.args.columns.now c.loop-place.place c.index-columns-place.result (omega arith) c.index-columns-place.is
    c.args.text.now.items c.loop-place.text.items c.comma.new.text.items c.expr.new.text.items
    c.loop-place.invariant c.in_ok-comma.ensures c.in_ok-expr.ensures
