use Rattle.std.proofs.Common.{arith, sym, ◌∙◌, ap, map}
use Rattle.std.proofs.lemmas.List.{map-append}
use Rattle.wsm_record.specs.Fields.{declared_field}
use Rattle.wsm_query.proofs.Braces.{turns_go_on}
use Rattle.wsm_query.proofs.clauses.fields.Goals as goal

pub loop-alloc-preserved : goal.loop-alloc-preserved
loop-alloc-preserved c = record {
  goes_on = turns_go_on c.loop-alloc.invariant.goes_on (sym c.begins.ensures.which ∙ c.loop-alloc-test.true) (c.begins.ensures.some c.loop-alloc-test.true) _ _ _ _ c.advance.ensures.rest c.advance.ensures.onward c.in_ok-field.ensures.gives c.in_ok-field.ensures.onward (ap (map declared_field) c.in_ok-push.ensures.items ∙ map-append declared_field _ _);
  onward = omega (arith, c.advance.ensures.onward, c.in_ok-field.ensures.onward, c.loop-alloc.invariant.onward);
}
