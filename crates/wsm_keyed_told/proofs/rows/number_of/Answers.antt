use Rattle.std.proofs.Common.{rules, arith}
use Rattle.wsm_keyed_told.proofs.Numbers.{few_numbers}
use Rattle.wsm_keyed_told.proofs.rows.number_of.Goals as goal

pub overflow_add-result : goal.overflow_add-result
overflow_add-result c = let few = few_numbers c.args.part c.args.block c.args.place (search rules) c.requires.block c.requires.place in omega (arith, few)
