use Rattle.std.proofs.Common.{arith, sym, ◌∙◌, ap, map}
use Rattle.std.proofs.lemmas.List.{map-append}
use Rattle.wsm_query.specs.Seen.{seen_expr}
use Rattle.wsm_query.proofs.Braces.{turns_go_on}
use Rattle.wsm_query.proofs.clauses.columns.Goals as goal

pub loop-alloc-preserved : goal.loop-alloc-preserved
loop-alloc-preserved c = record {
  goes_on = turns_go_on c.loop-alloc.invariant.goes_on (sym c.begins.ensures.which ∙ c.loop-alloc-test.true) (c.begins.ensures.some c.loop-alloc-test.true) _ _ _ _ c.advance.ensures.rest c.advance.ensures.onward c.in_ok-column.ensures.gives c.in_ok-column.ensures.onward (ap (map seen_expr) c.in_ok-push-2.ensures.items ∙ map-append seen_expr _ _);
  onward = omega (arith, c.advance.ensures.onward, c.in_ok-column.ensures.onward, c.loop-alloc.invariant.onward);
}
