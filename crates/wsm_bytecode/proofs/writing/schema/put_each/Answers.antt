use Rattle.wsm_bytecode.proofs.Spelled.{short_name, name_of_list, names_more}
use Rattle.wsm_bytecode.proofs.writing.schema.put_each.Goals as goal

pub put_name-requires : goal.put_name-requires
put_name-requires c = short_name c.text_of.result.now (name_of_list c.args.names.now c.loop-number.number c.text_of.result.now c.requires c.text_of.ensures)

pub loop-number-preserved : goal.loop-number-preserved
loop-number-preserved c = names_more c.args.out.now.items c.loop-number.out.items c.put_name.new.out.items c.args.names.now c.loop-number.number c.text_of.result.now c.text_of.ensures c.loop-number.invariant c.in_ok-put_name.ensures
