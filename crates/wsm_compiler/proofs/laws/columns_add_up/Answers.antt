use Rattle.wsm_compiler.proofs.AmountColumns.{columns_add_up, texts_add_up}
use Rattle.wsm_compiler.proofs.laws.columns_add_up.Goals as goal

pub returns-clause-columns : goal.returns-clause-columns
returns-clause-columns c = columns_add_up

pub returns-clause-text : goal.returns-clause-text
returns-clause-text c = texts_add_up
