use Rattle.wsm_record.proofs.NamesOf.{names_there}
use Rattle.wsm_program.proofs.named.name_count.Goals as goal

pub returns : goal.returns
returns c =
    let found = c.in_ok-field.ensures.lookup in
    let there = names_there c.fields.result.now c.args.schema.now c.args.number c.in_ok-field.field.now c.if-number-eq0.false c.fields.ensures found.3.0 found.1 in
    rw there c.count_of.ensures
