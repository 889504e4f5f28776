use Rattle.wsm_live.proofs.ToldLemmas.{handed-append, told-append, told_all}
use Rattle.wsm_live.proofs.laws.one_piece.Goals as goal

pub returns-clause-lines : goal.returns-clause-lines
returns-clause-lines c = told-append

pub returns-clause-text : goal.returns-clause-text
returns-clause-text c = handed-append

pub returns-clause-all : goal.returns-clause-all
returns-clause-all c = told_all
