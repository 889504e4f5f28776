use Rattle.std.proofs.Common.{List, ◌+◌, map, subst, sym, ap, ◌∙◌, arith}
use Rattle.wsm_record.specs.declared.schema.DeclaredField.{DeclaredField}
use Rattle.wsm_record.specs.Fields.{declared_field, field_seen}
use Rattle.wsm_record.specs.Schema.{is_field_after}
use Rattle.wsm_check.specs.Names.{field_names}
use Rattle.wsm_check.specs.Checks.{field_refusal}
use Rattle.wsm_check.proofs.ChecksInOrder.{PassedTo, all_passed, few_fields, next_passed}
use Rattle.wsm_check.proofs.judging.judge_fields.Goals as goal

pub loop-field-preserved : goal.loop-field-preserved
loop-field-preserved c =
    let fields = c.args.fields.now in
    let i = c.loop-field.field-index in
    let kept = c.loop-field.kept.items in
    let f = c.field-item.result in
    let k = c.in_ok-declared.declared in
    let passed = ap (λ (ks : List DeclaredField). field_refusal (field_names (map field_seen ks)) (declared_field f)) (sym c.deref.ensures.value) ∙ c.in_ok-declared.ensures.judged in
    let lawful = ap (λ (ks : List DeclaredField). is_field_after (field_names (map field_seen ks)) (field_seen k)) (sym c.deref.ensures.value) ∙ c.in_ok-declared.ensures.lawful in
    subst (λ (ks : List DeclaredField). PassedTo fields (i + 1) ks) (sym c.in_ok-push.ensures.items)
    (next_passed fields i kept f k (omega arith) c.field-item.is c.loop-field.invariant passed c.in_ok-declared.ensures.kept lawful)

pub returns-clause-few : goal.returns-clause-few
returns-clause-few c = few_fields c.args.fields.now (all_passed c.args.fields.now c.loop-field.field-index c.loop-field.kept.items c.loop-field-test.false c.loop-field.invariant)
