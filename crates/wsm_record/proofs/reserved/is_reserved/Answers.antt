use Rattle.wsm_record.specs.Name.{is_reserved}
use Rattle.wsm_record.proofs.Capitals.{none_reserved}
use Rattle.wsm_record.proofs.reserved.is_reserved.Goals as goal

-- src/reserved.rt:61:1
pub returns-then-begins_with_capital : goal.returns-then-begins_with_capital
unfolding is_reserved
returns-then-begins_with_capital c = c.is_one_of.ensures

-- src/reserved.rt:61:1
pub returns-else-begins_with_capital : goal.returns-else-begins_with_capital
unfolding is_reserved
returns-else-begins_with_capital c = none_reserved c.args.word.now c.begins_with_capital.result c.begins_with_capital.ensures c.if-begins_with_capital.false
