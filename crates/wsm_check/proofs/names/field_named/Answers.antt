use Rattle.wsm_check.proofs.NamedFields.{behind_all}
use Rattle.wsm_check.proofs.names.field_named.Goals as goal

pub returns : goal.returns
returns c = behind_all c.args.fields.now c.args.name.now c.loop-number.number c.loop-number.invariant c.loop-number.auto.number-end c.loop-number-test.false
