use Rattle.std.proofs.Common.{arith, sym, ◌∙◌}
use Rattle.wsm_query.proofs.Braces.{turns_go_on}
use Rattle.wsm_query.proofs.clauses.names.Goals as goal

pub loop-reader-preserved : goal.loop-reader-preserved
loop-reader-preserved c = record {
  goes_on = turns_go_on c.loop-reader.invariant.goes_on (sym c.begins.ensures.which ∙ c.loop-reader-test.true) (c.begins.ensures.some c.loop-reader-test.true) _ _ _ _ c.advance.ensures.rest c.advance.ensures.onward c.in_ok-name.ensures.gives c.in_ok-name.ensures.onward (c.in_ok-push-2.ensures.items);
  onward = omega (arith, c.advance.ensures.onward, c.in_ok-name.ensures.onward, c.loop-reader.invariant.onward);
}
