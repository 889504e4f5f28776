use Rattle.std.proofs.Common.{arith}
use Rattle.wsm_query.specs.Print.{field_tokens}
use Rattle.wsm_record.specs.Fields.{declared_field}
use Rattle.wsm_query.proofs.Written.{parts_next}
use Rattle.wsm_query.proofs.print_clauses.fields.Goals as goal

pub loop-declared-preserved : goal.loop-declared-preserved
loop-declared-preserved c =
    parts_next field_tokens declared_field c.args.fields.now c.loop-declared.declared-index c.declared-item.result (omega arith) c.declared-item.is
    c.args.text.now.items c.loop-declared.text.items c.field.new.text.items c.loop-declared.invariant c.in_ok-field.ensures
